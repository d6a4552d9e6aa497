-- A program that answers the same to what the rule of functions asks has the same change by it: `funcs_local`. Use
-- `all_heard` and `all_found` for what was read and changed from nothing on.
use Rattle.std.proofs.Common.{◌≡◌, ℕ, cond, List, [], ◌∷◌, ◌++◌, sym, ap}
use Rattle.std.specs.Prelude.{is_none}
use Rattle.rvd_fact.specs.declared.cells.Change.{Change}
use Rattle.rvd_fact.specs.declared.values.RefClass.TheVariants.{Call}
use Rattle.rvd_fact.specs.declared.values.Value.TheVariants.{Func}
use Rattle.rvd_fact.specs.Program.{Program, cell_at}
use Rattle.rvd_fact.specs.Memory.{func_key, unit_key, has_instruction, has_ref_to, is_instruction}
use Rattle.rvd_ask.specs.declared.asks.Analyzer.TheVariants.{Funcs}
use Rattle.rvd_ask.specs.declared.asks.Ask.{Ask}
use Rattle.rvd_ask.specs.declared.asks.Ask.TheVariants as ask
use Rattle.rvd_ask.specs.declared.answers.Answer.{Answer}
use Rattle.rvd_ask.specs.Answers.{Hold, only_if, told}
use Rattle.rvd_ask.specs.Funcs.{funcs_asks, funcs_rule, is_new_function}
use Rattle.rvd_ask.specs.Places.{addition}
use Rattle.rvd_ask.specs.Rules.{asks, rule}
use Rattle.rvd_ask.specs.Wake.{item}
use Rattle.rvd_ask.proofs.Plain.{is_instruction-plain, is_none-plain}
use Rattle.rvd_ask.proofs.Proposing.{from_empty, IsLocal}
use Rattle.rvd_ask.proofs.Told.{and_then, same_test, same_yes, when_true}

same_new : (P S : Program) (t : ℕ) → Hold S (told P (funcs_asks P t)) → is_new_function P t ≡ is_new_function S t
unfolding funcs_asks
same_new P S t h =
    let func = ask.Cell (func_key t) ∷ [] in
    and_then (has_ref_to P t Call) (has_ref_to S t Call) _ _ (same_yes (has_ref_to P t Call) (has_ref_to S t Call) h.0) (λ called.
    let behind = when_true P S (has_ref_to P t Call) (ask.Cell (unit_key t) ∷ only_if (has_instruction P t) func) called h.1 in
    and_then (has_instruction P t) (has_instruction S t) _ _ (same_test is_instruction is_instruction-plain (cell_at P (unit_key t)) (cell_at S (unit_key t)) behind.0) (λ there.
    same_test is_none is_none-plain (cell_at P (func_key t)) (cell_at S (func_key t)) (when_true P S (has_instruction P t) func there behind.1).0))

pub funcs_local : (P : Program) (t : ℕ) → IsLocal P (item Funcs t)
unfolding asks rule funcs_rule
funcs_local P t S valid h = sym (ap (λ b. cond b (addition (func_key t) Func ∷ []) []) (same_new P S t h))

-- what was read and changed from nothing on, as what the item's rule asks and changes
pub all_heard : (P : Program) (t : ℕ) (none reads : List (Ask × Answer)) → none ≡ [] → reads ≡ none ++ told P (funcs_asks P t) → reads ≡ told P (asks P (item Funcs t))
unfolding asks
all_heard P t none reads empty h = from_empty none reads (told P (funcs_asks P t)) empty h

pub all_found : (P : Program) (t : ℕ) (none changes : List Change) → none ≡ [] → changes ≡ none ++ funcs_rule P t → changes ≡ rule P (item Funcs t)
unfolding rule
all_found P t none changes empty h = from_empty none changes (funcs_rule P t) empty h
