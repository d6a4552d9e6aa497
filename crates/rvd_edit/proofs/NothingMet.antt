-- What it says that nothing is met: no cell meets the range (`met_none`), so that what is put there has its bytes alone
-- (`free_there`). `has_room` gives the block that a range lies in.
use Rattle.std.proofs.Common.{◌≡◌, ℕ, ◌+◌, ◌-◌, ◌<◌, ◌≤◌, Bool, true, false, not, ◌&&◌, ◌||◌, [], ◌∷◌, Option, Some, None, Ok, refl, ap, ◌∙◌, inl, inr, arith}
use Rattle.rvd_ask.proofs.Units.{none_passes}
use Rattle.std.specs.Prelude.{nat_lt, nat_le, ◌==◌, find as first_where}
use Rattle.std.specs.List.{list_any}
use Rattle.std.specs.Option.{option_map, option_map_or}
use Rattle.std.proofs.lemmas.Bool.{and_parts, and_left, and_right, both_ways, eq-eqb, false_from_ne_true, leb-true, not_from_false, not_from_true, or_cases, or_right}
use Rattle.rvd_fact.specs.declared.keys.Key.{Key}
use Rattle.rvd_fact.specs.declared.cells.Cell.{Cell}
use Rattle.rvd_fact.specs.declared.values.Value.{Value}
use Rattle.rvd_fact.specs.Program.{Program, cell_at, placed}
use Rattle.rvd_fact.specs.Memory.{surrounds}
use Rattle.rvd_fact.specs.Valid.{IsValid, block_span}
use Rattle.rvd_fact.proofs.Placing.{Fails, any-placed}
use Rattle.rvd_fact.proofs.Scans.{scanned}
use Rattle.rvd_program.specs.Checks.{crowds, is_free}
use Rattle.rvd_event.specs.declared.edits.EditRefusal.{EditRefusal}
use Rattle.rvd_edit.specs.Spaces.{first_met, in_one_block, meets, met_nothing, room}
use Rattle.rvd_edit.proofs.BytesLength.{surrounded}
use Rattle.rvd_edit.proofs.StepLemmas.{required}

pub nothing_met : (o : Option ℕ) (refusal : ℕ → EditRefusal) → met_nothing o refusal ≡ Ok tt → o ≡ None
nothing_met None refusal e = refl
nothing_met (Some start) refusal e = absurd cc

module _ (len : Value → ℕ) (S : Program) (valid : IsValid S) (a n : ℕ) (none : first_met len S a n ≡ None) where
  none_meets : list_any (meets len a n) S ≡ false
  none_meets = none_passes (meets len a n) S none

  pub met_none : (q : Key) (c : Cell) → cell_at S q ≡ Some c → meets len a n (q, c) ≡ false
  met_none q c here = false_from_ne_true (meets len a n (q, c)) (λ h.
      both_ways (list_any (meets len a n) S) none_meets (scanned (meets len a n) S (record { key = q; cell = c; here = here; passes = h })))

  crowds-meets : (e : Key × Cell) → crowds len a n e ≡ true → meets len a n e ≡ true
  crowds-meets e h =
      let p = and_parts (nat_lt 0 n) (not (e.0.at == a) && (nat_lt 0 (len e.1.value) && (nat_lt a (e.0.at + len e.1.value) && nat_lt e.0.at (a + n)))) h in
      (and_parts (not (e.0.at == a)) (nat_lt 0 (len e.1.value) && (nat_lt a (e.0.at + len e.1.value) && nat_lt e.0.at (a + n))) p.1).1

  any_crowds : (T : Program) → list_any (crowds len a n) T ≡ true → list_any (meets len a n) T ≡ true
  any_crowds [] h = h
  any_crowds (e ∷ T) h = elim (or_cases (crowds len a n e) (list_any (crowds len a n) T) h) [
    | inl here ↦ ap (λ (b : Bool). b || list_any (meets len a n) T) (crowds-meets e here)
    | inr later ↦ or_right (meets len a n e) (list_any (meets len a n) T) (any_crowds T later)
  ]

  -- what stands at the address itself doesn't crowd
  own_fails : (k : Key) (o : Option Cell) → k.at ≡ a → Fails (crowds len a n) k o
  own_fails k None at = tt
  own_fails k (Some c) at = and_right (nat_lt 0 n) _ (and_left (not (k.at == a)) _ (not_from_true (k.at == a) (eq-eqb k.at a at)))

  pub free_there : (k : Key) (o : Option Cell) → k.at ≡ a → is_free len (placed S k o) a n ≡ true
  free_there k o at =
      not_from_false (list_any (crowds len a n) (placed S k o))
      (any-placed (crowds len a n) S k o valid.in_order (own_fails k (cell_at S k) at) (own_fails k o at)
      ∙ false_from_ne_true (list_any (crowds len a n) S) (λ h. both_ways (list_any (meets len a n) S) none_meets (any_crowds S h)))

-- the block that a range lies in
abbrev pub Home : Program → ℕ → ℕ → Type 0
Home S a n = (b : ℕ) × (b ≤ a) × (a + n ≤ b + block_span S b)

home_of : (S : Program) (a n : ℕ) (o : Option (Key × Cell)) → first_where (surrounds a) S ≡ o → 0 < n → n ≤ option_map_or (λ (start : ℕ). start + block_span S start - a) (option_map (λ (e : Key × Cell). e.0.at) o) 0 → Home S a n
home_of S a n None is up fits = absurd (omega (arith, up, fits))
home_of S a n (Some e) is up fits = (e.0.at, (surrounded S a e is).0, omega (arith, up, fits))

pub has_room : (S : Program) (a n : ℕ) → 0 < n → in_one_block S a n ≡ Ok tt → Home S a n
has_room S a n up inside = home_of S a n (first_where (surrounds a) S) refl up (leb-true n (room S a) (required (nat_le n (room S a)) _ inside))
