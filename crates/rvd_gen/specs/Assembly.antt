-- Instructions by their operands in the order of assembly notation (RISC-V unprivileged ISA 2.1, sections 2.4 to 2.6).
use Rattle.std.specs.Prelude.{ℕ, ◌*◌, ℤ, pos}
use Rattle.rvd_decode.specs.declared.insn.Op.{Op}
use Rattle.rvd_decode.specs.declared.insn.Op.TheVariants.{Lui, Jal, Jalr, Lw, Sw, Addi}
use Rattle.rvd_decode.specs.Instruction.{Instruction}

-- an instruction of the I-format, of the S-format, and of the U-format or the J-format
abbrev pub i_type : Op → ℕ → ℕ → ℤ → Instruction
i_type op rd rs1 imm = record { op = op; rd = rd; rs1 = rs1; rs2 = 0; imm = imm }

abbrev pub s_type : Op → ℕ → ℕ → ℤ → Instruction
s_type op rs2 rs1 imm = record { op = op; rd = 0; rs1 = rs1; rs2 = rs2; imm = imm }

abbrev pub u_type : Op → ℕ → ℤ → Instruction
u_type op rd imm = record { op = op; rd = rd; rs1 = 0; rs2 = 0; imm = imm }

-- addi rd, rs1, imm
abbrev pub addi : ℕ → ℕ → ℤ → Instruction
addi rd rs1 imm = i_type Addi rd rs1 imm

-- lw rd, imm(rs1)
abbrev pub lw : ℕ → ℤ → ℕ → Instruction
lw rd imm rs1 = i_type Lw rd rs1 imm

-- jalr rd, imm(rs1)
abbrev pub jalr : ℕ → ℤ → ℕ → Instruction
jalr rd imm rs1 = i_type Jalr rd rs1 imm

-- sw rs2, imm(rs1)
abbrev pub sw : ℕ → ℤ → ℕ → Instruction
sw rs2 imm rs1 = s_type Sw rs2 rs1 imm

-- lui rd, upper: the immediate has the upper part in its bits 31 to 12
abbrev pub lui : ℕ → ℕ → Instruction
lui rd upper = u_type Lui rd (pos (4096 * upper))

-- jal rd, to the address that is imm bytes on
abbrev pub jal : ℕ → ℤ → Instruction
jal rd imm = u_type Jal rd imm

-- registers by the names of the calling convention
abbrev pub zero_reg : ℕ
zero_reg = 0

abbrev pub ra : ℕ
ra = 1

abbrev pub sp : ℕ
sp = 2

abbrev pub a0 : ℕ
a0 = 10
