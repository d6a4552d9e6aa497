-- The function that a call's target lacks fits the program: `funcs_fitting`. It stands at an address with an instruction, at
-- a key without a cell.
use Rattle.std.proofs.Common.{◌≡◌, ℕ, true, ◌&&◌, [], ◌∷◌, Option, Some, None, refl, sym, ap, ◌∙◌, arith}
use Rattle.std.specs.Prelude.{is_none}
use Rattle.std.proofs.lemmas.Bool.{and_parts, cond_both, false≢true}
use Rattle.std.proofs.lemmas.Option.{same_Some}
use Rattle.rvd_fact.specs.declared.cells.Cell.{Cell}
use Rattle.rvd_fact.specs.declared.values.Source.TheVariants.{Analysis}
use Rattle.rvd_fact.specs.declared.values.Value.TheVariants.{Func}
use Rattle.rvd_fact.specs.Program.{Program, cell_at}
use Rattle.rvd_fact.specs.Memory.{func_key, has_instruction, is_instruction, unit_key}
use Rattle.rvd_fact.specs.Valid.{is_address, suits, Fits, IsValid}
use Rattle.rvd_fact.proofs.Validity.{valid_placed}
use Rattle.rvd_ask.specs.declared.asks.Analyzer.TheVariants.{Funcs}
use Rattle.rvd_ask.specs.Funcs.{funcs_rule, is_new_function}
use Rattle.rvd_ask.specs.Places.{addition}
use Rattle.rvd_ask.specs.Rules.{rule}
use Rattle.rvd_ask.specs.Fitting.{FittingLaw}
use Rattle.rvd_fact.proofs.Suiting.{address_there}
use Rattle.rvd_ask.proofs.Units.{none_there}

instruction_there : (S : Program) (t : ℕ) → IsValid S → (o : Option Cell) → cell_at S (unit_key t) ≡ o → is_instruction o ≡ true → is_address t ≡ true
instruction_there S t valid None here h = absurd (false≢true h)
instruction_there S t valid (Some c) here h = address_there (unit_key t) c (valid.cells (unit_key t) c here)

abbrev func_cell : Cell
func_cell = record { value = Func; source = Analysis }

pub funcs_fitting : FittingLaw Funcs
unfolding rule funcs_rule
funcs_fitting S t valid =
    cond_both (is_new_function S t) (addition (func_key t) Func ∷ []) [] (Fits S)
    (λ h.
    let there = and_parts (has_instruction S t) (is_none (cell_at S (func_key t))) (and_parts _ (has_instruction S t && is_none (cell_at S (func_key t))) h).1 in
    let at : is_address t ≡ true = instruction_there S t valid (cell_at S (unit_key t)) refl there.0 in
    let suited : suits (func_key t) func_cell ≡ true = λ i. at i && true in (
      none_there (cell_at S (func_key t)) there.1,
      valid_placed S (func_key t) (Some func_cell) valid (λ e. absurd (omega (arith, e))) (λ e. absurd (omega (arith, e))) (λ c same. ap (suits (func_key t)) (sym (same_Some func_cell c same)) ∙ suited),
      tt,
    ))
    (λ h. tt)
