-- The rule of references: the target that the immediate of a jump or a branch tells, and the address that an instruction
-- computes with the upper value of the one before it; and what the rule asks, in order. Use `refs_rule` and `refs_asks`
-- for the whole.
use Rattle.std.specs.Prelude.{ℕ, ◌-◌, ◌%◌, ◌&&◌, not, ◌==◌, List, [], ◌∷◌, ◌++◌, Option, Some, None, is_none, is_some, if◌then◌else◌}
use Rattle.std.specs.Option.{option_map, option_and_then}
use Rattle.rvd_decode.specs.declared.insn.Op.{Op}
use Rattle.rvd_decode.specs.declared.insn.Op.TheVariants as op
use Rattle.rvd_decode.specs.Instruction.{Instruction}
use Rattle.rvd_decode.specs.Flow.{target}
use Rattle.rvd_fact.specs.declared.cells.Change.{Change}
use Rattle.rvd_fact.specs.declared.values.RefClass.{RefClass}
use Rattle.rvd_fact.specs.declared.values.RefClass.TheVariants.{Call, Jump, Cond, Datum, Read, Write}
use Rattle.rvd_fact.specs.declared.values.Value.TheVariants.{Ref}
use Rattle.rvd_fact.specs.Program.{Program, cell_at}
use Rattle.rvd_fact.specs.Memory.{unit_key, block}
use Rattle.rvd_ask.specs.declared.asks.Ask.{Ask}
use Rattle.rvd_ask.specs.declared.asks.Ask.TheVariants as ask
use Rattle.rvd_ask.specs.Answers.{only_if}
use Rattle.rvd_ask.specs.Places.{addition, instruction_at, moved, ref_key, word_before}

-- JAL and JALR are calls where they write the return address to a register other than x0
abbrev pub call_or_jump : ℕ → RefClass
call_or_jump rd = if rd == 0 then Jump else Call

-- the class of the reference to the target of an operation with the destination rd: JAL and the branches have one
abbrev pub target_class : Op → ℕ → Option RefClass
target_class op.Jal rd = Some (call_or_jump rd)
target_class op.Beq rd = Some Cond
target_class op.Bne rd = Some Cond
target_class op.Blt rd = Some Cond
target_class op.Bge rd = Some Cond
target_class op.Bltu rd = Some Cond
target_class op.Bgeu rd = Some Cond
target_class o rd = None

-- the class and the target of the instruction at y
abbrev pub direct : ℕ → Instruction → Option (RefClass × ℕ)
direct y i = option_map (λ class. (class, target y i)) (target_class i.op i.rd)

-- the class of the reference to the address that an operation computes with rs1: ADDI, loads, stores and JALR have one
abbrev pub computed_class : Op → ℕ → Option RefClass
computed_class op.Addi rd = Some Datum
computed_class op.Lb rd = Some Read
computed_class op.Lh rd = Some Read
computed_class op.Lw rd = Some Read
computed_class op.Lbu rd = Some Read
computed_class op.Lhu rd = Some Read
computed_class op.Sb rd = Some Write
computed_class op.Sh rd = Some Write
computed_class op.Sw rd = Some Write
computed_class op.Jalr rd = Some (call_or_jump rd)
computed_class o rd = None

-- JALR clears bit 0
abbrev pub computed_address : Op → ℕ → ℕ
computed_address op.Jalr a = a - a % 2
computed_address o a = a

-- the value that AUIPC and LUI at x give to rd
abbrev pub upper_value : ℕ → Instruction → Option ℕ
upper_value x i = value_of i.op
  where
    value_of : Op → Option ℕ
    value_of op.Auipc = Some (moved x i.imm)
    value_of op.Lui = Some (moved 0 i.imm)
    value_of o = None

-- the upper value of the instruction at x where it goes to the register r, which isn't x0
abbrev pub upper_for : ℕ → ℕ → Instruction → Option ℕ
upper_for r x i = if i.rd == r && not (r == 0) then upper_value x i else None

-- the upper value that the instruction before y leaves in the register r
abbrev pub upper_before : Program → ℕ → ℕ → Option ℕ
upper_before S y r = option_and_then (upper_for r (word_before y)) (instruction_at S (word_before y))

-- the class and the address that the instruction at y computes with the upper value before it
abbrev pub computed : Program → ℕ → Instruction → Option (RefClass × ℕ)
computed S y i =
    option_and_then (λ class. option_map (λ upper. (class, computed_address i.op (moved upper i.imm))) (upper_before S y i.rs1))
    (computed_class i.op i.rd)

-- the reference is added where a block has the target and the slot has no cell
abbrev pub slot_changes : Program → ℕ → ℕ → Option (RefClass × ℕ) → List Change
slot_changes S y slot None = []
slot_changes S y slot (Some r) =
    if is_some (block S r.1) && is_none (cell_at S (ref_key y slot)) then addition (ref_key y slot) (Ref r.1 r.0) ∷ []
    else []

abbrev pub slot_asks : Program → ℕ → ℕ → Option (RefClass × ℕ) → List Ask
slot_asks S y slot None = []
slot_asks S y slot (Some r) = ask.Block r.1 ∷ only_if (is_some (block S r.1)) (ask.Cell (ref_key y slot) ∷ [])

-- slot 0 has the target, slot 1 the computed address
abbrev pub instruction_changes : Program → ℕ → Option Instruction → List Change
instruction_changes S y None = []
instruction_changes S y (Some i) = slot_changes S y 0 (direct y i) ++ slot_changes S y 1 (computed S y i)

abbrev pub instruction_asks : Program → ℕ → Option Instruction → List Ask
instruction_asks S y None = []
instruction_asks S y (Some i) =
    slot_asks S y 0 (direct y i)
    ++ only_if (is_some (computed_class i.op i.rd)) (ask.Cell (unit_key (word_before y)) ∷ slot_asks S y 1 (computed S y i))

-- the rule of references
unfoldable pub refs_rule : Program → ℕ → List Change
refs_rule S y = instruction_changes S y (instruction_at S y)

-- what the rule of references asks
unfoldable pub refs_asks : Program → ℕ → List Ask
refs_asks S y = ask.Cell (unit_key y) ∷ instruction_asks S y (instruction_at S y)
