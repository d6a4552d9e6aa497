-- Which operations share an opcode and a funct3: a word's opcode and funct3 leave one operation, or two of which the second
-- is told by funct7 or inst[20]. RISC-V unprivileged ISA 2.1, chapter 24, table 24.1.
use Rattle.std.specs.Prelude.{◌≡◌, Option, Some, None, ◌⊎◌}
use Rattle.rvd_decode.specs.declared.insn.Op.{Op}
use Rattle.rvd_decode.specs.declared.insn.Op.TheVariants.{Add, Sub, Srl, Sra, Srli, Srai, Ecall, Ebreak}

-- the second operation with the opcode and the funct3 of an operation
abbrev pub twin : Op → Option Op
twin Add = Some Sub
twin Srl = Some Sra
twin Srli = Some Srai
twin Ecall = Some Ebreak
twin op = None

-- an operation is the one found, or its twin
abbrev pub IsAmong : Option Op → Op → Type 0
IsAmong None op = ⊥
IsAmong (Some first) op = (first ≡ op) ⊎ (twin first ≡ Some op)
