-- The instructions of RV32I, as the table of the manual: for each the bits that its words have, and its format.
-- RISC-V unprivileged ISA 2.1, chapter 24, "RV32I Base Instruction Set".
use Rattle.std.specs.Prelude.{◌≡◌, ℕ, Bool, true, ◌==◌, List, [], ◌∷◌, Option, find, if◌then◌else◌, bit_and}
use Rattle.std.specs.Option.{option_map}
use Rattle.rvd_decode.specs.declared.insn.Op.{Op}
use Rattle.rvd_decode.specs.declared.insn.Op.TheVariants.{Lui, Auipc, Jal, Jalr, Beq, Bne, Blt, Bge, Bltu, Bgeu, Lb, Lh, Lw, Lbu, Lhu, Sb, Sh, Sw, Addi, Slti, Sltiu, Xori, Ori, Andi, Slli, Srli, Srai, Add, Sub, Sll, Slt, Sltu, Xor, Srl, Sra, Or, And, Fence, Ecall, Ebreak}
use Rattle.rvd_decode.specs.declared.table.Format.{Format}
use Rattle.rvd_decode.specs.declared.table.Format.TheVariants.{R, I, S, B, U, J, Shift, Bare}
use Rattle.rvd_decode.specs.declared.table.Row.{Row}
use Rattle.rvd_decode.specs.Instruction.{Instruction}
use Rattle.rvd_decode.specs.Formats.{bits, immediate, has_rd, has_rs1, has_rs2, IsOfFormat}

-- a row: the bits that are looked at, what they have to be, and the format
abbrev pub row : ℕ → ℕ → Format → Row
row mask matching format = record { mask = mask; matching = matching; format = format }

-- the table
abbrev pub row_of : Op → Row
row_of Lui = row 0x0000007f 0x00000037 U
row_of Auipc = row 0x0000007f 0x00000017 U
row_of Jal = row 0x0000007f 0x0000006f J
row_of Jalr = row 0x0000707f 0x00000067 I
row_of Beq = row 0x0000707f 0x00000063 B
row_of Bne = row 0x0000707f 0x00001063 B
row_of Blt = row 0x0000707f 0x00004063 B
row_of Bge = row 0x0000707f 0x00005063 B
row_of Bltu = row 0x0000707f 0x00006063 B
row_of Bgeu = row 0x0000707f 0x00007063 B
row_of Lb = row 0x0000707f 0x00000003 I
row_of Lh = row 0x0000707f 0x00001003 I
row_of Lw = row 0x0000707f 0x00002003 I
row_of Lbu = row 0x0000707f 0x00004003 I
row_of Lhu = row 0x0000707f 0x00005003 I
row_of Sb = row 0x0000707f 0x00000023 S
row_of Sh = row 0x0000707f 0x00001023 S
row_of Sw = row 0x0000707f 0x00002023 S
row_of Addi = row 0x0000707f 0x00000013 I
row_of Slti = row 0x0000707f 0x00002013 I
row_of Sltiu = row 0x0000707f 0x00003013 I
row_of Xori = row 0x0000707f 0x00004013 I
row_of Ori = row 0x0000707f 0x00006013 I
row_of Andi = row 0x0000707f 0x00007013 I
row_of Slli = row 0xfe00707f 0x00001013 Shift
row_of Srli = row 0xfe00707f 0x00005013 Shift
row_of Srai = row 0xfe00707f 0x40005013 Shift
row_of Add = row 0xfe00707f 0x00000033 R
row_of Sub = row 0xfe00707f 0x40000033 R
row_of Sll = row 0xfe00707f 0x00001033 R
row_of Slt = row 0xfe00707f 0x00002033 R
row_of Sltu = row 0xfe00707f 0x00003033 R
row_of Xor = row 0xfe00707f 0x00004033 R
row_of Srl = row 0xfe00707f 0x00005033 R
row_of Sra = row 0xfe00707f 0x40005033 R
row_of Or = row 0xfe00707f 0x00006033 R
row_of And = row 0xfe00707f 0x00007033 R
row_of Fence = row 0x0000707f 0x0000000f Bare
row_of Ecall = row 0xffffffff 0x00000073 Bare
row_of Ebreak = row 0xffffffff 0x00100073 Bare

-- the names of the rows, in the manual's order
abbrev pub ops : List Op
ops =
    Lui ∷ Auipc ∷ Jal ∷ Jalr ∷ Beq ∷ Bne ∷ Blt ∷ Bge ∷ Bltu ∷ Bgeu ∷
    Lb ∷ Lh ∷ Lw ∷ Lbu ∷ Lhu ∷ Sb ∷ Sh ∷ Sw ∷
    Addi ∷ Slti ∷ Sltiu ∷ Xori ∷ Ori ∷ Andi ∷ Slli ∷ Srli ∷ Srai ∷
    Add ∷ Sub ∷ Sll ∷ Slt ∷ Sltu ∷ Xor ∷ Srl ∷ Sra ∷ Or ∷ And ∷
    Fence ∷ Ecall ∷ Ebreak ∷ []

-- whether a word has the bits of the row with a name
abbrev pub matches : ℕ → Op → Bool
matches w op = bit_and w (row_of op).mask == (row_of op).matching

-- the operation of a word, if it matches a row
unfoldable pub operation : ℕ → Option Op
operation w = find (matches w) ops

-- a field of a word, or 0 where the format lacks it
abbrev pub field : Bool → ℕ → ℕ
field present value = if present then value else 0

-- the instruction of an operation with the fields of a word
abbrev pub read : Op → Format → ℕ → Instruction
read op f w = record {
  op = op;
  rd = field (has_rd f) (bits w 11 7);
  rs1 = field (has_rs1 f) (bits w 19 15);
  rs2 = field (has_rs2 f) (bits w 24 20);
  imm = immediate f w;
}

abbrev pub read_as : ℕ → Op → Instruction
read_as w op = read op (row_of op).format w

-- the instruction of a word: that of the row that it matches, with the fields of the row's format
abbrev pub instruction : ℕ → Option Instruction
instruction w = option_map (read_as w) (operation w)

-- an instruction of the table: its operands are in the ranges of its row's format
abbrev pub IsInstruction : Instruction → Type 0
IsInstruction i = IsOfFormat (row_of i.op).format i

-- no word matches two rows
abbrev pub NoTwoRows : Type 0
NoTwoRows = (w : ℕ) (a b : Op) → matches w a ≡ true → matches w b ≡ true → a ≡ b
