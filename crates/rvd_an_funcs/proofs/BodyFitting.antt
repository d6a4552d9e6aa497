-- The body that a function lacks fits the program: `body_fits`, or `body_fitting` for the law. The bytes of its reach are a set of ranges, at an address.
use Rattle.std.proofs.Common.{◌≡◌, ℕ, true, ◌&&◌, [], ◌∷◌, List, Option, Some, None, refl, sym, ap, ◌∙◌, arith}
use Rattle.std.proofs.lemmas.Bool.{and_parts, cond_both, false≢true}
use Rattle.std.proofs.lemmas.Option.{same_Some}
use Rattle.rvd_fact.specs.declared.cells.Cell.{Cell}
use Rattle.rvd_fact.specs.declared.values.Source.TheVariants.{Analysis}
use Rattle.rvd_fact.specs.declared.values.Value.TheVariants.{Body as BodyOf}
use Rattle.rvd_fact.specs.Program.{Program, cell_at, is_present}
use Rattle.rvd_fact.specs.Ranges.{is_range_set, AreRanges}
use Rattle.rvd_fact.specs.Memory.{func_key}
use Rattle.rvd_fact.specs.Valid.{is_address, suits, Fits, IsValid}
use Rattle.rvd_fact.proofs.RangeLists.{are_ranges_test}
use Rattle.rvd_fact.proofs.Validity.{valid_placed}
use Rattle.rvd_ask.specs.declared.asks.Analyzer.TheVariants.{Body}
use Rattle.rvd_ask.specs.Body.{body_rule, has_body, has_open_body, is_open, set_body}
use Rattle.rvd_ask.specs.Places.{body_key}
use Rattle.rvd_ask.specs.Reach.{reach, spans}
use Rattle.rvd_ask.specs.Rules.{rule}
use Rattle.rvd_ask.specs.Fitting.{FittingLaw}
use Rattle.rvd_an_funcs.proofs.CodeOrder.{reach_ends, reach_rises}
use Rattle.rvd_fact.proofs.Suiting.{address_there}
use Rattle.rvd_an_funcs.proofs.Spans.{spans_ranges}

-- the bytes of a reach are a set of ranges
pub reach_ranges : (S : Program) (e : ℕ) → IsValid S → AreRanges (spans (reach S e))
reach_ranges S e valid = spans_ranges 0 (reach S e) (reach_rises S e valid) (λ z h. reach_ends S e z valid h)

present_there : (S : Program) (e : ℕ) → IsValid S → (o : Option Cell) → cell_at S (func_key e) ≡ o → is_present o ≡ true → is_address e ≡ true
present_there S e valid None here h = absurd (false≢true h)
present_there S e valid (Some c) here h = address_there (func_key e) c (valid.cells (func_key e) c here)

-- an analyzer's body of these ranges
abbrev pub body_cell : List (ℕ × ℕ) → Cell
body_cell rs = record { value = BodyOf rs; source = Analysis }

-- setting a body to a set of ranges fits
set_fits : (S : Program) (e : ℕ) (rs : List (ℕ × ℕ)) → IsValid S → is_address e ≡ true → is_range_set rs ≡ true → Fits S (set_body e (cell_at S (body_key e)) rs)
set_fits S e rs valid at ranges =
    cond_both (has_body rs (cell_at S (body_key e))) [] (record { key = body_key e; before = cell_at S (body_key e); after = Some (body_cell rs) } ∷ []) (Fits S)
    (λ h. tt)
    (λ h.
    let suited : suits (body_key e) (body_cell rs) ≡ true = λ i. at i && (ranges i && true) in (
      refl,
      valid_placed S (body_key e) (Some (body_cell rs)) valid (λ k. absurd (omega (arith, k))) (λ k. absurd (omega (arith, k))) (λ c same. ap (suits (body_key e)) (sym (same_Some (body_cell rs) c same)) ∙ suited),
      tt,
    ))

pub body_fits : (S : Program) (e : ℕ) → IsValid S → Fits S (body_rule S e)
unfolding body_rule
body_fits S e valid =
    cond_both (has_open_body S e) (set_body e (cell_at S (body_key e)) (spans (reach S e))) [] (Fits S)
    (λ h.
    let present = (and_parts (is_present (cell_at S (func_key e))) (is_open (cell_at S (body_key e))) h).0 in
    set_fits S e (spans (reach S e)) valid (present_there S e valid (cell_at S (func_key e)) refl present) (are_ranges_test 0 (spans (reach S e)) (reach_ranges S e valid)))
    (λ h. tt)

pub body_fitting : FittingLaw Body
unfolding rule
body_fitting S e valid = body_fits S e valid
