-- What the next unit is: `next_unit_law`. Under it, an entry that is found first is a cell of the program, and no cell
-- that passes stands at a lower address.
use Rattle.std.proofs.Common.{◌≡◌, ℕ, ◌<◌, ◌≤◌, Bool, true, false, cond, not, [], ◌∷◌, Option, Some, None, refl, sym, ap, ◌∙◌, inl, inr, ◌⊎◌, arith}
use Rattle.std.specs.Prelude.{T, nat_lt, find as first_where, MatchOption, ◌==◌}
use Rattle.std.specs.Option.{option_map}
use Rattle.std.specs.declared.cmp.Ordering.{Ordering}
use Rattle.std.specs.declared.cmp.Ordering.TheVariants.{Less, Equal, Greater}
use Rattle.std.specs.Ordering.{is_lt, nat_cmp, ordering_then}
use Rattle.std.specs.FinMap.Entries.{below_all}
use Rattle.std.proofs.lemmas.Bool.{and_from, and_parts, both_ways, eqb-true, lt-ltb, ltb-true, false≢true}
use Rattle.std.proofs.lemmas.Cmp.{ranked}
use Rattle.std.proofs.lemmas.Option.{none-some, same_Some}
use Rattle.rvd_fact.specs.declared.keys.Kind.TheVariants as kind
use Rattle.rvd_fact.specs.declared.keys.Key.{Key}
use Rattle.rvd_fact.specs.declared.cells.Cell.{Cell}
use Rattle.rvd_fact.specs.Order.{rank, key_cmp, same_key}
use Rattle.rvd_fact.specs.Program.{Program, cell_at, is_gone, is_present, IsInOrder}
use Rattle.rvd_fact.specs.Memory.{unit_key}
use Rattle.rvd_fact.specs.Valid.{IsValid, suits, top_sub}
use Rattle.rvd_fact.proofs.KeyOrder.{cases_key, same_key_itself, same_kind}
use Rattle.rvd_fact.proofs.Scans.{behind, first, second}
use Rattle.rvd_fact.proofs.Suiting.{sub_there}
use Rattle.rvd_program.proofs.FirstFound.{IsFirst, NonePasses, found_first}
use Rattle.rvd_listing.specs.Lookups.{begins_above, is_fact_of, BeginsUnit, IsNextUnit, NextUnitLaw}

-- ---- units

no_gone : (b : Bool) → not b ≡ true → b ≡ false
no_gone true h = absurd (false≢true h)
no_gone false h = refl

-- an entry of a unit stands at the key of its address
unit_at_key : (k : Key) (c : Cell) → suits k c ≡ true → rank k.kind ≡ 7 → k ≡ unit_key k.at
unit_at_key k c fits of =
    let unit : k.kind ≡ kind.Unit = same_kind k.kind kind.Unit of in
    let low : k.sub ≤ top_sub k.kind = sub_there k c fits in
    let top : top_sub k.kind ≡ 0 = ap top_sub unit in
    let sub : k.sub ≡ 0 = omega (arith, low, top) in
    λ i. record { at = k.at; kind = unit i; sub = sub i }

-- a present unit at an address passes, above another
passes_above : (S : Program) (a b : ℕ) (o : Option Cell) → a < b → is_present o ≡ true → cell_at S (unit_key b) ≡ o → (c : Cell) × (cell_at S (unit_key b) ≡ Some c) × (begins_above a (unit_key b, c) ≡ true)
passes_above S a b None above present here = absurd (false≢true present)
passes_above S a b (Some c) above present here = (c, here, and_from (nat_lt a b) (not (is_gone c.value)) (lt-ltb a b above) present)

law_of : (S : Program) (a : ℕ) (o : Option (Key × Cell)) → IsValid S → MatchOption o (NonePasses (begins_above a) S) (IsFirst (begins_above a) S)
    → MatchOption (option_map (λ (e : Key × Cell). e.0.at) o) ((b : ℕ) → a < b → BeginsUnit S b → ⊥) (IsNextUnit S a)
law_of S a None valid none = λ b above present.
    let p = passes_above S a b (cell_at S (unit_key b)) above present refl in
    none (unit_key b) p.0 p.1 p.2
law_of S a (Some e) valid found =
    let parts = and_parts (nat_lt a e.0.at) (is_fact_of kind.Unit e) found.passes in
    let fact = and_parts (rank e.0.kind == 7) (not (is_gone e.1.value)) parts.1 in
    let key : e.0 ≡ unit_key e.0.at = unit_at_key e.0 e.1 (valid.cells e.0 e.1 found.here) (eqb-true (rank e.0.kind) 7 fact.0) in
    record {
      above = ltb-true a e.0.at parts.0;
      present = ap (λ (k : Key). is_present (cell_at S k)) (sym key) ∙ ap is_present found.here ∙ fact.1;
      first = λ b above below present.
          let p = passes_above S a b (cell_at S (unit_key b)) above present refl in
          let low : e.0.at ≤ b = found.lowest (unit_key b) p.0 p.1 p.2 in
          absurd (omega (arith, low, below));
    }

pub next_unit_law : NextUnitLaw
next_unit_law S a valid = law_of S a (first_where (begins_above a) S) valid (found_first (begins_above a) S valid.in_order)
