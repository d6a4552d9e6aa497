-- How many changes a rule has. Use `few_changes`: at most 256, so that their number fits a verdict.
use Rattle.std.proofs.Common.{ℕ, zero, suc, ◌≤◌, List, [], ◌∷◌, length, Option, Some, None, cond, arith, length-append}
use Rattle.std.specs.Prelude.{filter_map, find, is_none, is_some, ◌&&◌}
use Rattle.std.specs.List.{cons_option}
use Rattle.std.proofs.lemmas.Bool.{cond_both}
use Rattle.rvd_decode.specs.Instruction.{Instruction}
use Rattle.rvd_fact.specs.declared.cells.Cell.{Cell}
use Rattle.rvd_fact.specs.declared.cells.Change.{Change}
use Rattle.rvd_fact.specs.declared.values.RefClass.{RefClass}
use Rattle.rvd_fact.specs.declared.values.Form.TheVariants.{Str}
use Rattle.rvd_fact.specs.declared.values.Source.TheVariants.{Analysis}
use Rattle.rvd_fact.specs.declared.values.Value.TheVariants.{Body as BodyOf, Bookmark, Func, Plain, Ref}
use Rattle.rvd_fact.specs.Program.{Program, cell_at}
use Rattle.rvd_fact.specs.Memory.{block, func_key, unit_key, word}
use Rattle.rvd_ask.specs.declared.asks.Analyzer.{Analyzer}
use Rattle.rvd_ask.specs.declared.asks.Analyzer.TheVariants.{Flow, Refs, Funcs, Body, Strings}
use Rattle.rvd_ask.specs.declared.asks.Item.{Item}
use Rattle.rvd_ask.specs.Places.{addition, body_key, error_key, instruction_at, next_word, ref_key}
use Rattle.rvd_ask.specs.Flow.{bad_instruction, code_addition, decides, decodes, flow_changes, flow_rule, is_free, is_ready, run, starts, word_falls}
use Rattle.rvd_ask.specs.Refs.{computed, direct, instruction_changes, refs_rule, slot_changes}
use Rattle.rvd_ask.specs.Funcs.{funcs_rule, is_new_function}
use Rattle.rvd_ask.specs.Reach.{reach, spans}
use Rattle.rvd_ask.specs.Body.{body_rule, has_body, has_open_body, set_body}
use Rattle.rvd_ask.specs.Strings.{is_read_at, string_changes, string_len, strings_rule}
use Rattle.rvd_ask.specs.Rules.{rule, rule_of}

added : {A : Type 0} (o : Option A) (list : List A) (n : ℕ) → length list ≤ n → length (cons_option o list) ≤ suc n
added None list n few = omega (arith, few)
added (Some x) list n few = omega (arith, few)

run_added : (S : Program) (n t : ℕ) → length (filter_map (code_addition S) (run S t n)) ≤ n
run_added S zero t = omega arith
run_added S (suc n) t =
    added (code_addition S t) (filter_map (code_addition S) (cond (word_falls (word S t) && is_ready S (next_word t)) (run S (next_word t) n) [])) n
    (cond_both (word_falls (word S t) && is_ready S (next_word t)) (run S (next_word t) n) [] (λ (list : List ℕ). length (filter_map (code_addition S) list) ≤ n)
    (λ h. run_added S n (next_word t))
    (λ h. omega arith))

few_by_flow : (S : Program) (o : Option ℕ) → length (flow_changes S o) ≤ 256
few_by_flow S None = omega arith
few_by_flow S (Some t) =
    cond_both (decodes (word S t)) (filter_map (code_addition S) (run S t 256)) (addition (error_key t) (Bookmark bad_instruction) ∷ []) (λ (cs : List Change). length cs ≤ 256)
    (λ h. run_added S 256 t)
    (λ h. omega arith)

few_in_slot : (S : Program) (y slot : ℕ) (o : Option (RefClass × ℕ)) → length (slot_changes S y slot o) ≤ 1
few_in_slot S y slot None = omega arith
few_in_slot S y slot (Some r) =
    cond_both (is_some (block S r.1) && is_none (cell_at S (ref_key y slot))) (addition (ref_key y slot) (Ref r.1 r.0) ∷ []) [] (λ (cs : List Change). length cs ≤ 1)
    (λ h. omega arith)
    (λ h. omega arith)

few_by_refs : (S : Program) (y : ℕ) (o : Option Instruction) → length (instruction_changes S y o) ≤ 256
few_by_refs S y None = omega arith
few_by_refs S y (Some i) =
    omega (arith, length-append (slot_changes S y 0 (direct y i)) (slot_changes S y 1 (computed S y i)), few_in_slot S y 0 (direct y i), few_in_slot S y 1 (computed S y i))

few_by_body : (e : ℕ) (old : Option Cell) (ranges : List (ℕ × ℕ)) → length (set_body e old ranges) ≤ 256
few_by_body e old ranges =
    cond_both (has_body ranges old) [] (record { key = body_key e; before = old; after = Some (record { value = BodyOf ranges; source = Analysis }) } ∷ []) (λ (cs : List Change). length cs ≤ 256)
    (λ h. omega arith)
    (λ h. omega arith)

few_by_string : (S : Program) (t : ℕ) (o : Option ℕ) → length (string_changes S t o) ≤ 256
few_by_string S t None = omega arith
few_by_string S t (Some n) =
    cond_both (is_free S t n && is_none (cell_at S (unit_key t))) (addition (unit_key t) (Plain (Str n)) ∷ []) [] (λ (cs : List Change). length cs ≤ 256)
    (λ h. omega arith)
    (λ h. omega arith)

few_of : (a : Analyzer) (S : Program) (at : ℕ) → length (rule_of a S at) ≤ 256
unfolding flow_rule refs_rule funcs_rule body_rule strings_rule
few_of Flow S x = few_by_flow S (find (decides S) (starts S x))
few_of Refs S y = few_by_refs S y (instruction_at S y)
few_of Funcs S t =
    cond_both (is_new_function S t) (addition (func_key t) Func ∷ []) [] (λ (cs : List Change). length cs ≤ 256)
    (λ h. omega arith)
    (λ h. omega arith)
few_of Body S e =
    cond_both (has_open_body S e) (set_body e (cell_at S (body_key e)) (spans (reach S e))) [] (λ (cs : List Change). length cs ≤ 256)
    (λ h. few_by_body e (cell_at S (body_key e)) (spans (reach S e)))
    (λ h. omega arith)
few_of Strings S t =
    cond_both (is_read_at S t) (string_changes S t (string_len S t)) [] (λ (cs : List Change). length cs ≤ 256)
    (λ h. few_by_string S t (string_len S t))
    (λ h. omega arith)

-- a rule has at most 256 changes
pub few_changes : (S : Program) (i : Item) → length (rule S i) ≤ 256
unfolding rule
few_changes S i = few_of i.analyzer S i.at
