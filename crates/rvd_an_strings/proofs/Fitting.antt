-- The string that the rule adds fits the valid program that it is found on: `strings_fitting`.
use Rattle.std.proofs.Common.{◌≡◌, ℕ, ◌+◌, ◌<◌, ◌≤◌, true, ◌&&◌, [], ◌∷◌, length, Option, Some, None, refl, sym, ap, subst, inl, inr, ◌⊎◌, arith}
use Rattle.std.specs.Prelude.{is_none, nat_le}
use Rattle.std.proofs.lemmas.Bool.{and_from, and_parts, cases_Bool, cases_lt, cond_both, false≢true, le-leb, lt-ltb}
use Rattle.rvd_fact.specs.declared.cells.Cell.{Cell}
use Rattle.rvd_fact.specs.declared.values.Form.TheVariants.{Str}
use Rattle.rvd_fact.specs.declared.values.Source.{Source}
use Rattle.rvd_fact.specs.declared.values.Source.TheVariants.{Analysis}
use Rattle.rvd_fact.specs.declared.values.Value.TheVariants.{Code, Plain}
use Rattle.rvd_fact.specs.Program.{Program, cell_at}
use Rattle.rvd_fact.specs.Memory.{unit_key, unit_len}
use Rattle.rvd_fact.specs.Valid.{Fits, IsValid, is_address, span, suits}
use Rattle.rvd_ask.specs.declared.asks.Analyzer.TheVariants.{Strings}
use Rattle.rvd_ask.specs.Fitting.{FittingLaw}
use Rattle.rvd_ask.specs.Flow.{is_free}
use Rattle.rvd_ask.specs.Places.{addition}
use Rattle.rvd_ask.specs.Rules.{rule}
use Rattle.rvd_ask.specs.Strings.{is_read_at, string_changes, string_len, tail}
use Rattle.rvd_fact.proofs.NewUnits.{valid_unit}
use Rattle.rvd_an_strings.proofs.Rooms.{Within, within}
use Rattle.rvd_an_strings.proofs.Strings.{Bounded, string_low}
use Rattle.rvd_ask.proofs.Units.{free_at, uncovered, none_there}
use Rattle.rvd_an_strings.proofs.Wholes.{read_changes, unread_changes}

-- a unit meets none of n free bytes
apart_from : (S : Program) (t n b : ℕ) (o : Option Cell) → is_free S t n ≡ true → 0 < n → cell_at S (unit_key b) ≡ o → 0 < span unit_len o → (t + n ≤ b) ⊎ (b + span unit_len o ≤ t)
apart_from S t n b None free some here up = absurd (omega (arith, up))
apart_from S t n b (Some c) free some here up =
    elim (cases_lt b t) [
      | inl below ↦ elim (cases_lt t (b + unit_len c.value)) [
        | inl meets ↦ absurd (uncovered S t (free_at S n t t free (omega arith) (omega (arith, some))) (unit_key b) c here (omega (arith, below)) meets)
        | inr apart ↦ inr (omega (arith, apart))
      ]
      | inr above ↦ elim (cases_lt b (t + n)) [
        | inl meets ↦ absurd (uncovered S b (free_at S n t b free (omega (arith, above)) meets) (unit_key b) c here (omega arith) (omega (arith, up)))
        | inr apart ↦ inl (omega (arith, apart))
      ]
    ]

abbrev string_cell : ℕ → Cell
string_cell len = record { value = Plain (Str len); source = Analysis }

string_suits : (t len : ℕ) → t < 4294967296 → 1 ≤ len → len ≤ 256 → suits (unit_key t) (string_cell len) ≡ true
string_suits t len low some short =
    and_from (is_address t) _ (lt-ltb t 4294967296 low)
    (and_from (nat_le 1 len && nat_le len 256) true (and_from (nat_le 1 len) (nat_le len 256) (le-leb 1 len some) (le-leb len 256 short)) refl)

no_code : (len w : ℕ) (s : Source) → string_cell len ≡ record { value = Code w; source = s } → ⊥
no_code len w s h = let values : Plain (Str len) ≡ Code w = ap (λ (c : Cell). c.value) h in absurd cc

module _ (S : Program) (t : ℕ) (valid : IsValid S) where
  added_fits : (len : ℕ) → Bounded (length (tail S t)) (Some len) → (is_free S t len && is_none (cell_at S (unit_key t))) ≡ true → Fits S (addition (unit_key t) (Plain (Str len)) ∷ [])
  added_fits len bounds vacant =
      let parts = and_parts (is_free S t len) (is_none (cell_at S (unit_key t))) vacant in
      let least = bounds.0 in
      let short = bounds.1 in
      let inside = bounds.2 in
      let home : Within S t (length (tail S t)) = within S valid t (omega (arith, least, inside)) in (
        none_there (cell_at S (unit_key t)) parts.1,
        valid_unit S t (string_cell len) valid (string_suits t len (omega (arith, home.top, least, inside)) (omega (arith, least)) short)
            (home.start, home.low, omega (arith, home.high, inside))
            (λ b other up. apart_from S t len b (cell_at S (unit_key b)) parts.0 (omega (arith, least)) refl up)
            (λ w s same. absurd (no_code len w s same)),
        tt,
      )

  string_fits : (o : Option ℕ) → Bounded (length (tail S t)) o → Fits S (string_changes S t o)
  string_fits None bounds = tt
  string_fits (Some len) bounds =
      cond_both (is_free S t len && is_none (cell_at S (unit_key t))) (addition (unit_key t) (Plain (Str len)) ∷ []) [] (Fits S) (added_fits len bounds) (λ h. tt)

pub strings_fitting : FittingLaw Strings
unfolding rule
strings_fitting S t valid = elim (cases_Bool (is_read_at S t)) [
  | inl so ↦ subst (Fits S) (sym (read_changes S t so)) (string_fits S t valid (string_len S t) (string_low S t))
  | inr not_so ↦ subst (Fits S) (sym (unread_changes S t not_so)) tt
]
