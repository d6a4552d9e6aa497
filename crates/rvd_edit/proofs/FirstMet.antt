-- The lowest unit that meets a range is the first that its bytes meet, the lowest byte first: `first_met_is_first`.
use Rattle.std.proofs.Common.{◌≡◌, ℕ, ◌+◌, ◌-◌, ◌<◌, ◌≤◌, Bool, true, cond, ◌&&◌, [], ◌∷◌, Option, Some, None, refl, sym, ap, ◌∙◌, subst, inl, inr, arith}
use Rattle.rvd_ask.proofs.Units.{none_passes}
use Rattle.std.specs.Prelude.{T, nat_lt, nat_le, find as first_where, MatchOption}
use Rattle.std.specs.List.{list_any}
use Rattle.std.specs.Option.{option_map}
use Rattle.std.specs.declared.cmp.Ordering.{Ordering}
use Rattle.std.specs.declared.cmp.Ordering.TheVariants.{Less, Equal, Greater}
use Rattle.std.specs.Ordering.{is_lt, nat_cmp, ordering_then}
use Rattle.std.specs.FinMap.Entries.{below_all}
use Rattle.std.proofs.lemmas.Bool.{and_from, and_parts, both_ways, cases_Bool, cases_order, le-leb, leb-true, lt-ltb, ltb-true}
use Rattle.std.proofs.lemmas.Cmp.{ranked}
use Rattle.rvd_fact.specs.declared.keys.Key.{Key}
use Rattle.rvd_fact.specs.declared.cells.Cell.{Cell}
use Rattle.rvd_fact.specs.Order.{key_cmp, same_key}
use Rattle.rvd_fact.specs.Program.{Program, cell_at, IsInOrder}
use Rattle.rvd_fact.specs.Memory.{cover, covers, unit_key, unit_len}
use Rattle.rvd_fact.specs.Valid.{IsValid, span, unit_span}
use Rattle.rvd_fact.proofs.KeyOrder.{cases_key, same_key_itself}
use Rattle.rvd_fact.proofs.Scans.{absent, first, scanned, second}
use Rattle.rvd_program.proofs.FirstFound.{IsFirst, NonePasses, found_first}
use Rattle.rvd_program.proofs.Lengths.{unit_at_key}
use Rattle.rvd_edit.specs.Laws.{FirstMetLaw, IsFirstMet}
use Rattle.rvd_edit.specs.Spaces.{first_met, meets}
use Rattle.rvd_edit.proofs.BytesLength.{first_passes}
use Rattle.rvd_edit.proofs.NothingMet.{met_none}

-- an entry that is found is a cell of the program, and no cell that passes stands at a lower address
first_facts : (p : Key × Cell → Bool) (S : Program) (e : Key × Cell) → IsInOrder S → first_where p S ≡ Some e → IsFirst p S e
first_facts p S e s h = subst (λ (o : Option (Key × Cell)). MatchOption o (NonePasses p S) (IsFirst p S)) h (found_first p S s)

-- ---- what covers a byte

-- a unit that has a byte
record Covering (S : Program) (x : ℕ) (e : Key × Cell) : Type 0 where
  here : cell_at S e.0 ≡ Some e.1
  low : e.0.at ≤ x
  high : x < e.0.at + unit_len e.1.value

covering : (S : Program) (x : ℕ) (e : Key × Cell) → IsInOrder S → first_where (covers x) S ≡ Some e → Covering S x e
covering S x e s h =
    let p = and_parts (nat_le e.0.at x) (nat_lt x (e.0.at + unit_len e.1.value)) (first_passes (covers x) S e h) in
    record { here = (first_facts (covers x) S e s h).here; low = leb-true e.0.at x p.0; high = ltb-true x (e.0.at + unit_len e.1.value) p.1 }

uncovered : (S : Program) (x : ℕ) (o : Option (Key × Cell)) → first_where (covers x) S ≡ o → ((e : Key × Cell) → first_where (covers x) S ≡ Some e → ⊥) → option_map (λ (e : Key × Cell). e.0.at) o ≡ None
uncovered S x None is no_entry = refl
uncovered S x (Some e) is no_entry = absurd (no_entry e is)

covered_by : (S : Program) (x start : ℕ) (o : Option (Key × Cell)) → first_where (covers x) S ≡ o → (option_map (λ (e : Key × Cell). e.0.at) o ≡ None → ⊥) → ((e : Key × Cell) → first_where (covers x) S ≡ Some e → e.0.at ≡ start) → option_map (λ (e : Key × Cell). e.0.at) o ≡ Some start
covered_by S x start None is some same = absurd (some refl)
covered_by S x start (Some e) is some same = ap Some (same e is)

-- the parts of a unit that meets
meets_from : (a n : ℕ) (e : Key × Cell) → 0 < unit_len e.1.value → a < e.0.at + unit_len e.1.value → e.0.at < a + n → meets unit_len a n e ≡ true
meets_from a n e long left right =
    and_from (nat_lt 0 (unit_len e.1.value)) _ (lt-ltb 0 (unit_len e.1.value) long)
    (and_from (nat_lt a (e.0.at + unit_len e.1.value)) _ (lt-ltb a (e.0.at + unit_len e.1.value) left) (lt-ltb e.0.at (a + n) right))

record Meeting (S : Program) (a n : ℕ) (e : Key × Cell) : Type 0 where
  here : cell_at S e.0 ≡ Some e.1
  long : 0 < unit_len e.1.value
  left : a < e.0.at + unit_len e.1.value
  right : e.0.at < a + n

meeting : (S : Program) (a n : ℕ) (e : Key × Cell) → IsInOrder S → first_where (meets unit_len a n) S ≡ Some e → Meeting S a n e
meeting S a n e s h =
    let p = and_parts (nat_lt 0 (unit_len e.1.value)) (nat_lt a (e.0.at + unit_len e.1.value) && nat_lt e.0.at (a + n)) (first_passes (meets unit_len a n) S e h) in
    let q = and_parts (nat_lt a (e.0.at + unit_len e.1.value)) (nat_lt e.0.at (a + n)) p.1 in
    record { here = (first_facts (meets unit_len a n) S e s h).here; long = ltb-true 0 (unit_len e.1.value) p.0; left = ltb-true a (e.0.at + unit_len e.1.value) q.0; right = ltb-true e.0.at (a + n) q.1 }

module _ (S : Program) (valid : IsValid S) where
  -- how many bytes the present unit at an entry's address takes
  size_at : (e : Key × Cell) → cell_at S e.0 ≡ Some e.1 → 0 < unit_len e.1.value → unit_span S e.0.at ≡ unit_len e.1.value
  size_at e here long =
      let key : e.0 ≡ unit_key e.0.at = unit_at_key e.0 e.1 (valid.cells e.0 e.1 here) long in
      ap (λ (q : Key). span unit_len (cell_at S q)) (sym key) ∙ ap (span unit_len) here

  -- two units that have one byte are one
  one_unit : (x : ℕ) (e f : Key × Cell) → cell_at S e.0 ≡ Some e.1 → cell_at S f.0 ≡ Some f.1 → e.0.at ≤ x → x < e.0.at + unit_len e.1.value → f.0.at ≤ x → x < f.0.at + unit_len f.1.value → f.0.at ≡ e.0.at
  one_unit x e f e_here f_here e_low e_high f_low f_high =
      let e_long : 0 < unit_len e.1.value = omega (arith, e_low, e_high) in
      let f_long : 0 < unit_len f.1.value = omega (arith, f_low, f_high) in
      let e_size : unit_span S e.0.at ≡ unit_len e.1.value = size_at e e_here e_long in
      let f_size : unit_span S f.0.at ≡ unit_len f.1.value = size_at f f_here f_long in
      elim (cases_order e.0.at f.0.at) [
        | inl same ↦ sym same
        | inr (inl less) ↦
            let apart : e.0.at + unit_span S e.0.at ≤ f.0.at = valid.units_apart e.0.at f.0.at less (omega (arith, e_size, e_long)) (omega (arith, f_size, f_long)) in
            absurd (omega (arith, apart, e_size, e_high, f_low))
        | inr (inr more) ↦
            let apart : f.0.at + unit_span S f.0.at ≤ e.0.at = valid.units_apart f.0.at e.0.at more (omega (arith, f_size, f_long)) (omega (arith, e_size, e_long)) in
            absurd (omega (arith, apart, f_size, f_high, e_low))
      ]

  none_covered : (a n : ℕ) → first_met unit_len S a n ≡ None → (k : ℕ) → k < n → cover S (a + k) ≡ None
  none_covered a n none k low = uncovered S (a + k) (first_where (covers (a + k)) S) refl (λ e h.
      let c : Covering S (a + k) e = covering S (a + k) e valid.in_order h in
      let at_least = c.low in
      let below = c.high in
      both_ways (meets unit_len a n e) (met_none unit_len S valid a n none e.0 e.1 c.here)
      (meets_from a n e (omega (arith, at_least, below)) (omega (arith, below)) (omega (arith, at_least, low))))

  first_covered : (a n : ℕ) (e : Key × Cell) → 0 < n → first_where (meets unit_len a n) S ≡ Some e → IsFirstMet S a n e.0.at
  first_covered a n e up h =
      let m : Meeting S a n e = meeting S a n e valid.in_order h in
      let long = m.long in
      let left = m.left in
      let right = m.right in
      let own_low : e.0.at ≤ a + (e.0.at - a) = omega arith in
      let own_high : a + (e.0.at - a) < e.0.at + unit_len e.1.value = omega (arith, long, left) in
      record {
        byte = e.0.at - a;
        within = omega (arith, up, right);
        covered = covered_by S (a + (e.0.at - a)) e.0.at (first_where (covers (a + (e.0.at - a))) S) refl
            (λ none. both_ways (list_any (covers (a + (e.0.at - a))) S) (none_passes (covers (a + (e.0.at - a))) S none)
            (scanned (covers (a + (e.0.at - a))) S (record { key = e.0; cell = e.1; here = m.here; passes = and_from (nat_le e.0.at (a + (e.0.at - a))) _ (le-leb e.0.at (a + (e.0.at - a)) own_low) (lt-ltb (a + (e.0.at - a)) (e.0.at + unit_len e.1.value) own_high) })))
            (λ f g.
            let c : Covering S (a + (e.0.at - a)) f = covering S (a + (e.0.at - a)) f valid.in_order g in
            one_unit (a + (e.0.at - a)) e f m.here c.here own_low own_high c.low c.high);
        below = λ k low. uncovered S (a + k) (first_where (covers (a + k)) S) refl (λ f g.
            let c : Covering S (a + k) f = covering S (a + k) f valid.in_order g in
            let f_low = c.low in
            let f_high = c.high in
            let its : meets unit_len a n f ≡ true = meets_from a n f (omega (arith, f_low, f_high)) (omega (arith, f_high)) (omega (arith, f_low, low, right)) in
            let least : e.0.at ≤ f.0.at = (first_facts (meets unit_len a n) S e valid.in_order h).lowest f.0 f.1 c.here its in
            omega (arith, least, f_low, low));
      }

first_by : (S : Program) (a n : ℕ) (valid : IsValid S) (o : Option (Key × Cell)) → 0 < n → first_where (meets unit_len a n) S ≡ o → MatchOption (option_map (λ (e : Key × Cell). e.0.at) o) ((k : ℕ) → k < n → cover S (a + k) ≡ None) (IsFirstMet S a n)
first_by S a n valid None up is = none_covered S valid a n (ap (option_map (λ (e : Key × Cell). e.0.at)) is)
first_by S a n valid (Some e) up is = first_covered S valid a n e up is

pub first_met_is_first : FirstMetLaw
first_met_is_first S a n valid up = first_by S a n valid (first_where (meets unit_len a n) S) up refl
