-- The word of an instruction: the bits of its row, and its operands in the places of its format.
-- RISC-V unprivileged ISA 2.1, sections 2.2 and 2.3, figures 2.2 to 2.4.
use Rattle.std.specs.Prelude.{ℕ, ◌+◌, ◌-◌, ◌*◌, ◌^◌, ℤ, pos, negsuc}
use Rattle.rvd_decode.specs.declared.table.Format.{Format}
use Rattle.rvd_decode.specs.declared.table.Format.TheVariants.{R, I, S, B, U, J, Shift, Bare}
use Rattle.rvd_decode.specs.Instruction.{Instruction}
use Rattle.rvd_decode.specs.Formats.{bits}
use Rattle.rvd_decode.specs.Table.{row_of}

-- the two's complement of a number, of 32 bits
abbrev pub complement : ℤ → ℕ
complement (pos a) = a
complement (negsuc a) = 2 ^ 32 - 1 - a

-- the bits imm[..] of an immediate in the places that a format has for them
abbrev pub placed : Format → ℕ → ℕ
placed R imm = 0
placed I imm = bits imm 11 0 * 2 ^ 20
placed S imm = bits imm 11 5 * 2 ^ 25 + bits imm 4 0 * 2 ^ 7
placed B imm = bits imm 12 12 * 2 ^ 31 + bits imm 10 5 * 2 ^ 25 + bits imm 4 1 * 2 ^ 8 + bits imm 11 11 * 2 ^ 7
placed U imm = bits imm 31 12 * 2 ^ 12
placed J imm = bits imm 20 20 * 2 ^ 31 + bits imm 10 1 * 2 ^ 21 + bits imm 11 11 * 2 ^ 20 + bits imm 19 12 * 2 ^ 12
placed Shift imm = bits imm 4 0 * 2 ^ 20
placed Bare imm = 0

-- the operands of an instruction in their places: rd, rs1 and rs2 in inst[11:7], inst[19:15] and inst[24:20], and the immediate
abbrev pub operands : Format → Instruction → ℕ
operands f i = i.rd * 2 ^ 7 + i.rs1 * 2 ^ 15 + i.rs2 * 2 ^ 20 + placed f (complement i.imm)

-- the word of an instruction
abbrev pub encoding : Instruction → ℕ
encoding i = (row_of i.op).matching + operands (row_of i.op).format i
