-- Programs that answer alike to what the rule of references asks on one of them have the same changes by it: `local`.
use Rattle.std.proofs.Common.{◌≡◌, ℕ, true, cond, [], ◌∷◌, ◌++◌, Option, Some, None, refl, sym, ap, ◌∙◌}
use Rattle.std.specs.Prelude.{is_none, is_some}
use Rattle.std.specs.Option.{option_and_then, option_map}
use Rattle.rvd_decode.specs.Instruction.{Instruction}
use Rattle.rvd_fact.specs.declared.values.RefClass.{RefClass}
use Rattle.rvd_fact.specs.declared.values.Value.TheVariants.{Ref}
use Rattle.rvd_fact.specs.Program.{Program, cell_at}
use Rattle.rvd_fact.specs.Memory.{block, unit_key}
use Rattle.rvd_ask.specs.declared.asks.Analyzer.TheVariants.{Refs}
use Rattle.rvd_ask.specs.declared.asks.Ask.TheVariants as ask
use Rattle.rvd_ask.specs.Answers.{Hold, only_if, told}
use Rattle.rvd_ask.specs.Places.{addition, cell_instruction, instruction_at, moved, ref_key, word_before}
use Rattle.rvd_ask.specs.Refs.{computed_address, computed_class, direct, instruction_asks, instruction_changes, refs_asks, refs_rule, slot_asks, slot_changes, upper_for}
use Rattle.rvd_ask.specs.Rules.{asks, rule}
use Rattle.rvd_ask.specs.Wake.{item}
use Rattle.rvd_an_refs.specs.Slots.{computed_asks}
use Rattle.rvd_ask.proofs.Plain.{cell_instruction-plain, is_none-plain}
use Rattle.rvd_ask.proofs.Proposing.{IsLocal}
use Rattle.rvd_ask.proofs.Told.{and_then, hold_left, hold_right, same_at, same_test, when_true}

same_instruction : (P S : Program) (a : ℕ) → Hold S (told P (ask.Cell (unit_key a) ∷ [])) → instruction_at P a ≡ instruction_at S a
same_instruction P S a h = same_test cell_instruction cell_instruction-plain (cell_at P (unit_key a)) (cell_at S (unit_key a)) h.0

same_slot : (P S : Program) (y slot : ℕ) (o : Option (RefClass × ℕ)) → Hold S (told P (slot_asks P y slot o)) → slot_changes P y slot o ≡ slot_changes S y slot o
same_slot P S y slot None h = refl
same_slot P S y slot (Some r) h =
    let there = ap is_some (same_at (block P r.1) (block S r.1) h.0) in
    let free = λ (e : is_some (block P r.1) ≡ true). same_test is_none is_none-plain (cell_at P (ref_key y slot)) (cell_at S (ref_key y slot)) (when_true P S (is_some (block P r.1)) (ask.Cell (ref_key y slot) ∷ []) e h.1).0 in
    ap (λ b. cond b (addition (ref_key y slot) (Ref r.1 r.0) ∷ []) [])
    (and_then (is_some (block P r.1)) (is_some (block S r.1)) (is_none (cell_at P (ref_key y slot))) (is_none (cell_at S (ref_key y slot))) there free)

-- what an instruction of a class computes, by the instruction before it
abbrev pub computed_by : ℕ → Instruction → RefClass → Option Instruction → Option (RefClass × ℕ)
computed_by y i class before = option_map (λ upper. (class, computed_address i.op (moved upper i.imm))) (option_and_then (upper_for i.rs1 (word_before y)) before)

abbrev computed_in : Program → ℕ → Instruction → Option RefClass → Option (RefClass × ℕ)
computed_in S y i o = option_and_then (λ class. computed_by y i class (instruction_at S (word_before y))) o

same_computed : (P S : Program) (y : ℕ) (i : Instruction) (o : Option RefClass)
    → Hold S (told P (only_if (is_some o) (ask.Cell (unit_key (word_before y)) ∷ slot_asks P y 1 (computed_in P y i o))))
    → slot_changes P y 1 (computed_in P y i o) ≡ slot_changes S y 1 (computed_in S y i o)
same_computed P S y i None h = refl
same_computed P S y i (Some class) h =
    same_slot P S y 1 (computed_in P y i (Some class)) h.1
    ∙ ap (λ before. slot_changes S y 1 (computed_by y i class before)) (same_instruction P S (word_before y) (h.0, tt))

same_slots : (P S : Program) (y : ℕ) (o : Option Instruction) → Hold S (told P (instruction_asks P y o)) → instruction_changes P y o ≡ instruction_changes S y o
same_slots P S y None h = refl
same_slots P S y (Some i) h =
    let target = same_slot P S y 0 (direct y i) (hold_left P S (slot_asks P y 0 (direct y i)) (computed_asks P y i) h) in
    let address = same_computed P S y i (computed_class i.op i.rd) (hold_right P S (slot_asks P y 0 (direct y i)) (computed_asks P y i) h) in
    λ n. target n ++ address n

-- the changes are the same
pub same_rule : (P S : Program) (y : ℕ) → Hold S (told P (refs_asks P y)) → refs_rule S y ≡ refs_rule P y
unfolding refs_rule refs_asks
same_rule P S y h =
    sym (same_slots P S y (instruction_at P y) h.1 ∙ ap (instruction_changes S y) (same_instruction P S y (h.0, tt)))

-- the rule depends on nothing but what it asks
pub local : (P : Program) (y : ℕ) → IsLocal P (item Refs y)
unfolding rule asks
local P y S valid h = same_rule P S y h
