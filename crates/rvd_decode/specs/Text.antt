-- The text of an instruction at an address, in the notation of the RISC-V Assembly Programmer's Manual: the mnemonic, and the
-- operands with commas between them. Registers have the names of the calling convention; a target is an address of eight
-- hexadecimal digits, and an immediate a signed decimal.
use Rattle.std.specs.Prelude.{ℕ, zero, suc, ◌/◌, ◌%◌, Bool, true, false, List, [], ◌∷◌, ◌++◌, if◌then◌else◌, codes, slice_index_or, ℤ}
use Rattle.std.specs.Fmt.{digit_glyph, signed_decimal}
use Rattle.rvd_decode.specs.declared.insn.Op.{Op}
use Rattle.rvd_decode.specs.declared.insn.Op.TheVariants.{Lui, Auipc, Jal, Jalr, Beq, Bne, Blt, Bge, Bltu, Bgeu, Lb, Lh, Lw, Lbu, Lhu, Sb, Sh, Sw, Addi, Slti, Sltiu, Xori, Ori, Andi, Slli, Srli, Srai, Add, Sub, Sll, Slt, Sltu, Xor, Srl, Sra, Or, And, Fence, Ecall, Ebreak}
use Rattle.rvd_decode.specs.declared.table.Format.{Format}
use Rattle.rvd_decode.specs.declared.table.Format.TheVariants as format
use Rattle.rvd_decode.specs.Instruction.{Instruction}
use Rattle.rvd_decode.specs.Formats.{bits}
use Rattle.rvd_decode.specs.Table.{row_of}
use Rattle.rvd_decode.specs.Encoding.{complement}
use Rattle.rvd_decode.specs.Flow.{target}

-- the mnemonics
abbrev pub mnemonic : Op → List ℕ
mnemonic Lui = codes "lui"
mnemonic Auipc = codes "auipc"
mnemonic Jal = codes "jal"
mnemonic Jalr = codes "jalr"
mnemonic Beq = codes "beq"
mnemonic Bne = codes "bne"
mnemonic Blt = codes "blt"
mnemonic Bge = codes "bge"
mnemonic Bltu = codes "bltu"
mnemonic Bgeu = codes "bgeu"
mnemonic Lb = codes "lb"
mnemonic Lh = codes "lh"
mnemonic Lw = codes "lw"
mnemonic Lbu = codes "lbu"
mnemonic Lhu = codes "lhu"
mnemonic Sb = codes "sb"
mnemonic Sh = codes "sh"
mnemonic Sw = codes "sw"
mnemonic Addi = codes "addi"
mnemonic Slti = codes "slti"
mnemonic Sltiu = codes "sltiu"
mnemonic Xori = codes "xori"
mnemonic Ori = codes "ori"
mnemonic Andi = codes "andi"
mnemonic Slli = codes "slli"
mnemonic Srli = codes "srli"
mnemonic Srai = codes "srai"
mnemonic Add = codes "add"
mnemonic Sub = codes "sub"
mnemonic Sll = codes "sll"
mnemonic Slt = codes "slt"
mnemonic Sltu = codes "sltu"
mnemonic Xor = codes "xor"
mnemonic Srl = codes "srl"
mnemonic Sra = codes "sra"
mnemonic Or = codes "or"
mnemonic And = codes "and"
mnemonic Fence = codes "fence"
mnemonic Ecall = codes "ecall"
mnemonic Ebreak = codes "ebreak"

-- the names of x0 to x31
abbrev pub registers : List (List ℕ)
registers =
    codes "zero" ∷ codes "ra" ∷ codes "sp" ∷ codes "gp" ∷ codes "tp" ∷ codes "t0" ∷ codes "t1" ∷ codes "t2" ∷
    codes "s0" ∷ codes "s1" ∷ codes "a0" ∷ codes "a1" ∷ codes "a2" ∷ codes "a3" ∷ codes "a4" ∷ codes "a5" ∷
    codes "a6" ∷ codes "a7" ∷ codes "s2" ∷ codes "s3" ∷ codes "s4" ∷ codes "s5" ∷ codes "s6" ∷ codes "s7" ∷
    codes "s8" ∷ codes "s9" ∷ codes "s10" ∷ codes "s11" ∷ codes "t3" ∷ codes "t4" ∷ codes "t5" ∷ codes "t6" ∷ []

abbrev pub register : ℕ → List ℕ
register x = slice_index_or registers x []

-- the last `count` hexadecimal digits of n, followed by `after`
abbrev pub hex_onto : ℕ → ℕ → List ℕ → List ℕ
hex_onto zero n after = after
hex_onto (suc count) n after = hex_onto count (n / 16) (digit_glyph false (n % 16) ∷ after)

unfoldable pub hex : ℕ → ℕ → List ℕ
hex count n = hex_onto count n []

-- an offset from a base register
abbrev pub indirect : ℤ → ℕ → List ℕ
indirect offset base = signed_decimal offset ++ (codes "(" ++ (register base ++ codes ")"))

-- the upper twenty bits of an immediate
abbrev pub upper : ℤ → List ℕ
upper imm = codes "0x" ++ hex 5 (bits (complement imm) 31 12)

-- the I-format instructions whose operand is an address: JALR and the loads
abbrev pub is_indirect : Op → Bool
is_indirect Jalr = true
is_indirect Lb = true
is_indirect Lh = true
is_indirect Lw = true
is_indirect Lbu = true
is_indirect Lhu = true
is_indirect op = false

-- the operands of an instruction at an address
abbrev pub operand_texts : Format → Instruction → ℕ → List (List ℕ)
operand_texts format.R i at = register i.rd ∷ register i.rs1 ∷ register i.rs2 ∷ []
operand_texts format.I i at =
    if is_indirect i.op then register i.rd ∷ indirect i.imm i.rs1 ∷ []
    else register i.rd ∷ register i.rs1 ∷ signed_decimal i.imm ∷ []
operand_texts format.S i at = register i.rs2 ∷ indirect i.imm i.rs1 ∷ []
operand_texts format.B i at = register i.rs1 ∷ register i.rs2 ∷ hex 8 (target at i) ∷ []
operand_texts format.U i at = register i.rd ∷ upper i.imm ∷ []
operand_texts format.J i at = register i.rd ∷ hex 8 (target at i) ∷ []
operand_texts format.Shift i at = register i.rd ∷ register i.rs1 ∷ signed_decimal i.imm ∷ []
operand_texts format.Bare i at = []

-- what follows an operand
abbrev pub others : List (List ℕ) → List ℕ
others [] = []
others (x ∷ xs) = codes ", " ++ (x ++ others xs)

-- what follows the mnemonic
abbrev pub listed : List (List ℕ) → List ℕ
listed [] = []
listed (x ∷ xs) = codes " " ++ (x ++ others xs)

-- the text of an instruction at an address
abbrev pub instruction_text : Instruction → ℕ → List ℕ
instruction_text i at = mnemonic i.op ++ listed (operand_texts (row_of i.op).format i at)
