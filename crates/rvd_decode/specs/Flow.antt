-- Where control goes after an instruction: on to the next word, to a target, or to a procedure and back.
-- RISC-V unprivileged ISA 2.1, section 2.5.
use Rattle.std.specs.Prelude.{ℕ, ◌+◌, ◌%◌, ◌^◌, Bool, true, false, not, ◌&&◌, ◌==◌, Option, Some, None}
use Rattle.rvd_decode.specs.declared.insn.Op.{Op}
use Rattle.rvd_decode.specs.declared.insn.Op.TheVariants.{Jal, Jalr}
use Rattle.rvd_decode.specs.Instruction.{Instruction}
use Rattle.rvd_decode.specs.Encoding.{complement}

-- the unconditional jumps, JAL and JALR
abbrev pub is_unconditional : Op → Bool
is_unconditional Jal = true
is_unconditional Jalr = true
is_unconditional op = false

-- a call: an unconditional jump that writes the return address to a register other than x0
abbrev pub calls : Option Instruction → Bool
calls None = false
calls (Some i) = is_unconditional i.op && not (i.rd == 0)

-- a jump that isn't a call
abbrev pub jumps : Option Instruction → Bool
jumps None = false
jumps (Some i) = is_unconditional i.op && i.rd == 0

-- the next word is reached: everything falls through but a jump, also a word that is no instruction
abbrev pub falls_through : Option Instruction → Bool
falls_through i = not (jumps i)

-- the address that a jump or a branch at an address leads to: the address plus the immediate, modulo 2^32
abbrev pub target : ℕ → Instruction → ℕ
target at i = (at + complement i.imm) % 2 ^ 32
