-- An instruction as a value: its operation and its operands. What ranges they have is told in `Table`.
use Rattle.std.specs.Prelude.{ℕ, ℤ}
use Rattle.rvd_decode.specs.declared.insn.Op.{Op}

-- an operation with its destination register, its source registers and its immediate
pub record Instruction : Type 0 where
  pub op : Op
  pub rd : ℕ
  pub rs1 : ℕ
  pub rs2 : ℕ
  pub imm : ℤ
