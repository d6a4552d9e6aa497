-- The word of an instruction is read as that instruction (`decoded`). A lemma for each format says so for its rows.
use Rattle.std.proofs.Common.{◌≡◌, ℕ, ◌+◌, ◌-◌, ◌*◌, ◌/◌, ◌%◌, ◌<◌, ◌≤◌, Bool, true, cond, Some, refl, sym, ap, ◌∙◌, bit_and, arith, ℤ, pos, negsuc, lit<}
use Rattle.std.specs.Prelude.{nat_lt}
use Rattle.std.specs.Option.{option_map}
use Rattle.std.proofs.lemmas.Bool.{eq-eqb, lt-ltb, le-ltb}
use Rattle.rvd_decode.specs.declared.insn.Op.{Op}
use Rattle.rvd_decode.specs.declared.insn.Op.TheVariants.{Lui, Auipc, Jal, Jalr, Beq, Bne, Blt, Bge, Bltu, Bgeu, Lb, Lh, Lw, Lbu, Lhu, Sb, Sh, Sw, Addi, Slti, Sltiu, Xori, Ori, Andi, Slli, Srli, Srai, Add, Sub, Sll, Slt, Sltu, Xor, Srl, Sra, Or, And, Fence, Ecall, Ebreak}
use Rattle.rvd_decode.specs.declared.table.Format.TheVariants as format
use Rattle.rvd_decode.specs.declared.table.Row.{Row}
use Rattle.rvd_decode.specs.Instruction.{Instruction}
use Rattle.rvd_decode.specs.Formats.{IsOfFormat, IsMultiple, signed}
use Rattle.rvd_decode.specs.Table.{row, row_of, read, read_as, matches, instruction, IsInstruction}
use Rattle.rvd_decode.specs.Encoding.{complement, operands, encoding}
use Rattle.rvd_decode.proofs.Words.{six, IsSix, has_six, i_value, s_value, b_value, u_value, j_value, opcode_kept, funct3_kept, funct7_kept}
use Rattle.rvd_decode.proofs.Rows.{operation-matched}

-- a number's magnitude is below half
abbrev IsWithin : ℕ → ℤ → Type 0
IsWithin half (pos a) = a < half
IsWithin half (negsuc a) = a < half

-- a number's low bits, of which the highest has the weight half
abbrev low : ℕ → ℤ → ℕ
low half (pos a) = a
low half (negsuc a) = half + half - 1 - a

-- the low bits give the number back
signed_low : (half v : ℕ) (z : ℤ) → IsWithin half z → v ≡ low half z → cond (nat_lt v half) (pos v) (negsuc (half + half - 1 - v)) ≡ z
signed_low half v (pos a) h e =
    let l : v < half = omega arith in
    ap (λ (b : Bool). cond b (pos v) (negsuc (half + half - 1 - v))) (lt-ltb v half l) ∙ ap pos e
signed_low half v (negsuc a) h e =
    let l : half ≤ v = omega arith in
    let back : half + half - 1 - v ≡ a = omega arith in
    ap (λ (b : Bool). cond b (pos v) (negsuc (half + half - 1 - v))) (le-ltb v half l) ∙ ap negsuc back

low_12 : (z : ℤ) → IsWithin 2048 z → complement z % 4096 ≡ low 2048 z
low_12 (pos a) h = omega arith
low_12 (negsuc a) h = omega arith

low_13 : (z : ℤ) → IsWithin 4096 z → complement z % 8192 ≡ low 4096 z
low_13 (pos a) h = omega arith
low_13 (negsuc a) h = omega arith

low_21 : (z : ℤ) → IsWithin 1048576 z → complement z % 2097152 ≡ low 1048576 z
low_21 (pos a) h = omega arith
low_21 (negsuc a) h = omega arith

low_32 : (z : ℤ) → IsWithin 2147483648 z → complement z ≡ low 2147483648 z
low_32 (pos a) h = refl
low_32 (negsuc a) h = refl

small_32 : (z : ℤ) → IsWithin 2147483648 z → complement z < 4294967296
small_32 (pos a) h = omega arith
small_32 (negsuc a) h = omega arith

even_13 : (z : ℤ) → IsWithin 4096 z → IsMultiple 2 z → complement z % 2 ≡ 0
even_13 (pos a) h m = m
even_13 (negsuc a) h m = omega arith

even_21 : (z : ℤ) → IsWithin 1048576 z → IsMultiple 2 z → complement z % 2 ≡ 0
even_21 (pos a) h m = m
even_21 (negsuc a) h m = omega arith

whole_32 : (z : ℤ) → IsWithin 2147483648 z → IsMultiple 4096 z → complement z % 4096 ≡ 0
whole_32 (pos a) h m = m
whole_32 (negsuc a) h m = omega arith

-- an instruction by its parts
abbrev ins : Op → ℕ → ℕ → ℕ → ℤ → Instruction
ins op rd rs1 rs2 imm = record { op = op; rd = rd; rs1 = rs1; rs2 = rs2; imm = imm }

-- a word of a row is read as an instruction
record Kept (op : Op) (r : Row) (w : ℕ) (i : Instruction) : Type 0 where
  matched : bit_and w r.mask ≡ r.matching
  is_read : read op r.format w ≡ i

-- the word that a row's bits and an instruction's operands make
abbrev Keeps : Op → Row → (rd rs1 rs2 : ℕ) → ℤ → Type 0
Keeps op r rd rs1 rs2 imm = IsOfFormat r.format (ins op rd rs1 rs2 imm) → Kept op r (r.matching + operands r.format (ins op rd rs1 rs2 imm)) (ins op rd rs1 rs2 imm)

kept_u : (op : Op) (o : ℕ) → o < 128 → (rd rs1 rs2 : ℕ) (imm : ℤ) → Keeps op (row 127 o format.U) rd rs1 rs2 imm
kept_u op o lo rd rs1 rs2 imm h =
    let u = complement imm in
    let t = u / 4096 % 1048576 in
    let w = o + (rd * 128 + rs1 * 32768 + rs2 * 1048576 + t * 4096) in
    let l : rd < 32 = h.rd in
    let no_rs1 : rs1 ≡ 0 = h.rs1 in
    let no_rs2 : rs2 ≡ 0 = h.rs2 in
    let small : u < 4294967296 = small_32 imm h.imm.0 in
    let whole : u % 4096 ≡ 0 = whole_32 imm h.imm.0 h.imm.1 in
    let is : w ≡ six o rd (t % 8) (t / 8 % 32) (t / 256 % 32) (t / 8192 % 128) = omega arith in
    let ranges : IsSix o rd (t % 8) (t / 8 % 32) (t / 256 % 32) (t / 8192 % 128) = record { opcode_fits = lo; rd_fits = l; funct3_fits = omega arith; rs1_fits = omega arith; rs2_fits = omega arith; funct7_fits = omega arith } in
    let s = has_six w o rd (t % 8) (t / 8 % 32) (t / 256 % 32) (t / 8192 % 128) ranges is in
    let parts : t % 8 + t / 8 % 32 * 8 + t / 256 % 32 * 256 + t / 8192 % 128 * 8192 ≡ t = omega arith in
    let joined : t * 4096 ≡ u = omega arith in
    let value : w / 4096 % 1048576 * 4096 ≡ low 2147483648 imm = ap (λ x. x * 4096) (u_value w o rd _ _ _ _ s ∙ parts) ∙ joined ∙ low_32 imm h.imm.0 in
    let back : signed 32 (w / 4096 % 1048576 * 4096) ≡ imm = signed_low 2147483648 (w / 4096 % 1048576 * 4096) imm h.imm.0 value in
    record {
      matched = opcode_kept w o rd _ _ _ _ s;
      is_read = λ j. record { op = op; rd = s.rd_is j; rs1 = sym no_rs1 j; rs2 = sym no_rs2 j; imm = back j };
    }

kept_j : (op : Op) (o : ℕ) → o < 128 → (rd rs1 rs2 : ℕ) (imm : ℤ) → Keeps op (row 127 o format.J) rd rs1 rs2 imm
kept_j op o lo rd rs1 rs2 imm h =
    let u = complement imm in
    let a = u / 1048576 % 2 in
    let b = u / 2 % 1024 in
    let c = u / 2048 % 2 in
    let d = u / 4096 % 256 in
    let w = o + (rd * 128 + rs1 * 32768 + rs2 * 1048576 + (a * 2147483648 + b * 2097152 + c * 1048576 + d * 4096)) in
    let l : rd < 32 = h.rd in
    let no_rs1 : rs1 ≡ 0 = h.rs1 in
    let no_rs2 : rs2 ≡ 0 = h.rs2 in
    let even : u % 2 ≡ 0 = even_21 imm h.imm.0 h.imm.1 in
    let is : w ≡ six o rd (d % 8) (d / 8) (b % 16 * 2 + c) (a * 64 + b / 16) = omega arith in
    let ranges : IsSix o rd (d % 8) (d / 8) (b % 16 * 2 + c) (a * 64 + b / 16) = record { opcode_fits = lo; rd_fits = l; funct3_fits = omega arith; rs1_fits = omega arith; rs2_fits = omega arith; funct7_fits = omega arith } in
    let s = has_six w o rd (d % 8) (d / 8) (b % 16 * 2 + c) (a * 64 + b / 16) ranges is in
    let a_is : (a * 64 + b / 16) / 64 ≡ a = omega arith in
    let b_is : (b % 16 * 2 + c) / 2 + (a * 64 + b / 16) % 64 * 16 ≡ b = omega arith in
    let c_is : (b % 16 * 2 + c) % 2 ≡ c = omega arith in
    let d_is : d % 8 + d / 8 * 8 ≡ d = omega arith in
    let joined : a * 1048576 + d * 4096 + c * 2048 + b * 2 ≡ u % 2097152 = omega arith in
    let value = j_value w o rd _ _ _ _ s ∙ (λ j. a_is j * 1048576 + d_is j * 4096 + c_is j * 2048 + b_is j * 2) ∙ joined ∙ low_21 imm h.imm.0 in
    record {
      matched = opcode_kept w o rd _ _ _ _ s;
      is_read = λ j. record { op = op; rd = s.rd_is j; rs1 = sym no_rs1 j; rs2 = sym no_rs2 j; imm = signed_low 1048576 _ imm h.imm.0 value j };
    }

kept_i : (op : Op) (o f : ℕ) → o < 128 → f < 8 → (rd rs1 rs2 : ℕ) (imm : ℤ) → Keeps op (row 28799 (o + f * 4096) format.I) rd rs1 rs2 imm
kept_i op o f lo lf rd rs1 rs2 imm h =
    let u = complement imm in
    let w = o + f * 4096 + (rd * 128 + rs1 * 32768 + rs2 * 1048576 + u / 1 % 4096 * 1048576) in
    let l1 : rd < 32 = h.rd in
    let l2 : rs1 < 32 = h.rs1 in
    let no_rs2 : rs2 ≡ 0 = h.rs2 in
    let is : w ≡ six o rd f rs1 (u % 32) (u / 32 % 128) = omega arith in
    let ranges : IsSix o rd f rs1 (u % 32) (u / 32 % 128) = record { opcode_fits = lo; rd_fits = l1; funct3_fits = lf; rs1_fits = l2; rs2_fits = omega arith; funct7_fits = omega arith } in
    let s = has_six w o rd f rs1 (u % 32) (u / 32 % 128) ranges is in
    let joined : u % 32 + u / 32 % 128 * 32 ≡ u % 4096 = omega arith in
    let value = i_value w o rd f rs1 _ _ s ∙ joined ∙ low_12 imm h.imm in
    record {
      matched = funct3_kept w o rd f rs1 _ _ s;
      is_read = λ j. record { op = op; rd = s.rd_is j; rs1 = s.rs1_is j; rs2 = sym no_rs2 j; imm = signed_low 2048 _ imm h.imm value j };
    }

kept_s : (op : Op) (o f : ℕ) → o < 128 → f < 8 → (rd rs1 rs2 : ℕ) (imm : ℤ) → Keeps op (row 28799 (o + f * 4096) format.S) rd rs1 rs2 imm
kept_s op o f lo lf rd rs1 rs2 imm h =
    let u = complement imm in
    let w = o + f * 4096 + (rd * 128 + rs1 * 32768 + rs2 * 1048576 + (u / 32 % 128 * 33554432 + u / 1 % 32 * 128)) in
    let no_rd : rd ≡ 0 = h.rd in
    let l1 : rs1 < 32 = h.rs1 in
    let l2 : rs2 < 32 = h.rs2 in
    let is : w ≡ six o (u % 32) f rs1 rs2 (u / 32 % 128) = omega arith in
    let ranges : IsSix o (u % 32) f rs1 rs2 (u / 32 % 128) = record { opcode_fits = lo; rd_fits = omega arith; funct3_fits = lf; rs1_fits = l1; rs2_fits = l2; funct7_fits = omega arith } in
    let s = has_six w o (u % 32) f rs1 rs2 (u / 32 % 128) ranges is in
    let joined : u / 32 % 128 * 32 + u % 32 ≡ u % 4096 = omega arith in
    let value = s_value w o _ f rs1 rs2 _ s ∙ joined ∙ low_12 imm h.imm in
    record {
      matched = funct3_kept w o _ f rs1 rs2 _ s;
      is_read = λ j. record { op = op; rd = sym no_rd j; rs1 = s.rs1_is j; rs2 = s.rs2_is j; imm = signed_low 2048 _ imm h.imm value j };
    }

kept_b : (op : Op) (o f : ℕ) → o < 128 → f < 8 → (rd rs1 rs2 : ℕ) (imm : ℤ) → Keeps op (row 28799 (o + f * 4096) format.B) rd rs1 rs2 imm
kept_b op o f lo lf rd rs1 rs2 imm h =
    let u = complement imm in
    let a = u / 4096 % 2 in
    let b = u / 32 % 64 in
    let c = u / 2 % 16 in
    let d = u / 2048 % 2 in
    let w = o + f * 4096 + (rd * 128 + rs1 * 32768 + rs2 * 1048576 + (a * 2147483648 + b * 33554432 + c * 256 + d * 128)) in
    let no_rd : rd ≡ 0 = h.rd in
    let l1 : rs1 < 32 = h.rs1 in
    let l2 : rs2 < 32 = h.rs2 in
    let even : u % 2 ≡ 0 = even_13 imm h.imm.0 h.imm.1 in
    let is : w ≡ six o (c * 2 + d) f rs1 rs2 (a * 64 + b) = omega arith in
    let ranges : IsSix o (c * 2 + d) f rs1 rs2 (a * 64 + b) = record { opcode_fits = lo; rd_fits = omega arith; funct3_fits = lf; rs1_fits = l1; rs2_fits = l2; funct7_fits = omega arith } in
    let s = has_six w o (c * 2 + d) f rs1 rs2 (a * 64 + b) ranges is in
    let a_is : (a * 64 + b) / 64 ≡ a = omega arith in
    let b_is : (a * 64 + b) % 64 ≡ b = omega arith in
    let c_is : (c * 2 + d) / 2 ≡ c = omega arith in
    let d_is : (c * 2 + d) % 2 ≡ d = omega arith in
    let joined : a * 4096 + d * 2048 + b * 32 + c * 2 ≡ u % 8192 = omega arith in
    let value = b_value w o _ f rs1 rs2 _ s ∙ (λ j. a_is j * 4096 + d_is j * 2048 + b_is j * 32 + c_is j * 2) ∙ joined ∙ low_13 imm h.imm.0 in
    record {
      matched = funct3_kept w o _ f rs1 rs2 _ s;
      is_read = λ j. record { op = op; rd = sym no_rd j; rs1 = s.rs1_is j; rs2 = s.rs2_is j; imm = signed_low 4096 _ imm h.imm.0 value j };
    }

kept_shift : (op : Op) (o f g : ℕ) → o < 128 → f < 8 → g < 128 → (rd rs1 rs2 : ℕ) (imm : ℤ) → Keeps op (row 4261441663 (o + f * 4096 + g * 33554432) format.Shift) rd rs1 rs2 imm
kept_shift op o f g lo lf lg rd rs1 rs2 (negsuc n) h = absurd h.imm
kept_shift op o f g lo lf lg rd rs1 rs2 (pos n) h =
    let w = o + f * 4096 + g * 33554432 + (rd * 128 + rs1 * 32768 + rs2 * 1048576 + n / 1 % 32 * 1048576) in
    let l1 : rd < 32 = h.rd in
    let l2 : rs1 < 32 = h.rs1 in
    let no_rs2 : rs2 ≡ 0 = h.rs2 in
    let l3 : n < 32 = h.imm in
    let is : w ≡ six o rd f rs1 n g = omega arith in
    let ranges : IsSix o rd f rs1 n g = record { opcode_fits = lo; rd_fits = l1; funct3_fits = lf; rs1_fits = l2; rs2_fits = l3; funct7_fits = lg } in
    let s = has_six w o rd f rs1 n g ranges is in
    record {
      matched = funct7_kept w o rd f rs1 n g s;
      is_read = λ j. record { op = op; rd = s.rd_is j; rs1 = s.rs1_is j; rs2 = sym no_rs2 j; imm = pos (s.rs2_is j) };
    }

kept_r : (op : Op) (o f g : ℕ) → o < 128 → f < 8 → g < 128 → (rd rs1 rs2 : ℕ) (imm : ℤ) → Keeps op (row 4261441663 (o + f * 4096 + g * 33554432) format.R) rd rs1 rs2 imm
kept_r op o f g lo lf lg rd rs1 rs2 imm h =
    let w = o + f * 4096 + g * 33554432 + (rd * 128 + rs1 * 32768 + rs2 * 1048576 + 0) in
    let l1 : rd < 32 = h.rd in
    let l2 : rs1 < 32 = h.rs1 in
    let l3 : rs2 < 32 = h.rs2 in
    let is : w ≡ six o rd f rs1 rs2 g = omega arith in
    let ranges : IsSix o rd f rs1 rs2 g = record { opcode_fits = lo; rd_fits = l1; funct3_fits = lf; rs1_fits = l2; rs2_fits = l3; funct7_fits = lg } in
    let s = has_six w o rd f rs1 rs2 g ranges is in
    record {
      matched = funct7_kept w o rd f rs1 rs2 g s;
      is_read = λ j. record { op = op; rd = s.rd_is j; rs1 = s.rs1_is j; rs2 = s.rs2_is j; imm = sym h.imm j };
    }

kept_bare : (op : Op) (mask v : ℕ) → bit_and v mask ≡ v → (rd rs1 rs2 : ℕ) (imm : ℤ) → Keeps op (row mask v format.Bare) rd rs1 rs2 imm
kept_bare op mask v m rd rs1 rs2 imm h =
    let no_rd : rd ≡ 0 = h.rd in
    let no_rs1 : rs1 ≡ 0 = h.rs1 in
    let no_rs2 : rs2 ≡ 0 = h.rs2 in
    let is : v + (rd * 128 + rs1 * 32768 + rs2 * 1048576 + 0) ≡ v = omega arith in
    record {
      matched = ap (λ x. bit_and x mask) is ∙ m;
      is_read = λ j. record { op = op; rd = sym no_rd j; rs1 = sym no_rs1 j; rs2 = sym no_rs2 j; imm = sym h.imm j };
    }

-- each instruction of the table
kept : (op : Op) (rd rs1 rs2 : ℕ) (imm : ℤ) → Keeps op (row_of op) rd rs1 rs2 imm
kept Lui rd rs1 rs2 imm h = kept_u Lui 55 (lit< tt) rd rs1 rs2 imm h
kept Auipc rd rs1 rs2 imm h = kept_u Auipc 23 (lit< tt) rd rs1 rs2 imm h
kept Jal rd rs1 rs2 imm h = kept_j Jal 111 (lit< tt) rd rs1 rs2 imm h
kept Jalr rd rs1 rs2 imm h = kept_i Jalr 103 0 (lit< tt) (lit< tt) rd rs1 rs2 imm h
kept Beq rd rs1 rs2 imm h = kept_b Beq 99 0 (lit< tt) (lit< tt) rd rs1 rs2 imm h
kept Bne rd rs1 rs2 imm h = kept_b Bne 99 1 (lit< tt) (lit< tt) rd rs1 rs2 imm h
kept Blt rd rs1 rs2 imm h = kept_b Blt 99 4 (lit< tt) (lit< tt) rd rs1 rs2 imm h
kept Bge rd rs1 rs2 imm h = kept_b Bge 99 5 (lit< tt) (lit< tt) rd rs1 rs2 imm h
kept Bltu rd rs1 rs2 imm h = kept_b Bltu 99 6 (lit< tt) (lit< tt) rd rs1 rs2 imm h
kept Bgeu rd rs1 rs2 imm h = kept_b Bgeu 99 7 (lit< tt) (lit< tt) rd rs1 rs2 imm h
kept Lb rd rs1 rs2 imm h = kept_i Lb 3 0 (lit< tt) (lit< tt) rd rs1 rs2 imm h
kept Lh rd rs1 rs2 imm h = kept_i Lh 3 1 (lit< tt) (lit< tt) rd rs1 rs2 imm h
kept Lw rd rs1 rs2 imm h = kept_i Lw 3 2 (lit< tt) (lit< tt) rd rs1 rs2 imm h
kept Lbu rd rs1 rs2 imm h = kept_i Lbu 3 4 (lit< tt) (lit< tt) rd rs1 rs2 imm h
kept Lhu rd rs1 rs2 imm h = kept_i Lhu 3 5 (lit< tt) (lit< tt) rd rs1 rs2 imm h
kept Sb rd rs1 rs2 imm h = kept_s Sb 35 0 (lit< tt) (lit< tt) rd rs1 rs2 imm h
kept Sh rd rs1 rs2 imm h = kept_s Sh 35 1 (lit< tt) (lit< tt) rd rs1 rs2 imm h
kept Sw rd rs1 rs2 imm h = kept_s Sw 35 2 (lit< tt) (lit< tt) rd rs1 rs2 imm h
kept Addi rd rs1 rs2 imm h = kept_i Addi 19 0 (lit< tt) (lit< tt) rd rs1 rs2 imm h
kept Slti rd rs1 rs2 imm h = kept_i Slti 19 2 (lit< tt) (lit< tt) rd rs1 rs2 imm h
kept Sltiu rd rs1 rs2 imm h = kept_i Sltiu 19 3 (lit< tt) (lit< tt) rd rs1 rs2 imm h
kept Xori rd rs1 rs2 imm h = kept_i Xori 19 4 (lit< tt) (lit< tt) rd rs1 rs2 imm h
kept Ori rd rs1 rs2 imm h = kept_i Ori 19 6 (lit< tt) (lit< tt) rd rs1 rs2 imm h
kept Andi rd rs1 rs2 imm h = kept_i Andi 19 7 (lit< tt) (lit< tt) rd rs1 rs2 imm h
kept Slli rd rs1 rs2 imm h = kept_shift Slli 19 1 0 (lit< tt) (lit< tt) (lit< tt) rd rs1 rs2 imm h
kept Srli rd rs1 rs2 imm h = kept_shift Srli 19 5 0 (lit< tt) (lit< tt) (lit< tt) rd rs1 rs2 imm h
kept Srai rd rs1 rs2 imm h = kept_shift Srai 19 5 32 (lit< tt) (lit< tt) (lit< tt) rd rs1 rs2 imm h
kept Add rd rs1 rs2 imm h = kept_r Add 51 0 0 (lit< tt) (lit< tt) (lit< tt) rd rs1 rs2 imm h
kept Sub rd rs1 rs2 imm h = kept_r Sub 51 0 32 (lit< tt) (lit< tt) (lit< tt) rd rs1 rs2 imm h
kept Sll rd rs1 rs2 imm h = kept_r Sll 51 1 0 (lit< tt) (lit< tt) (lit< tt) rd rs1 rs2 imm h
kept Slt rd rs1 rs2 imm h = kept_r Slt 51 2 0 (lit< tt) (lit< tt) (lit< tt) rd rs1 rs2 imm h
kept Sltu rd rs1 rs2 imm h = kept_r Sltu 51 3 0 (lit< tt) (lit< tt) (lit< tt) rd rs1 rs2 imm h
kept Xor rd rs1 rs2 imm h = kept_r Xor 51 4 0 (lit< tt) (lit< tt) (lit< tt) rd rs1 rs2 imm h
kept Srl rd rs1 rs2 imm h = kept_r Srl 51 5 0 (lit< tt) (lit< tt) (lit< tt) rd rs1 rs2 imm h
kept Sra rd rs1 rs2 imm h = kept_r Sra 51 5 32 (lit< tt) (lit< tt) (lit< tt) rd rs1 rs2 imm h
kept Or rd rs1 rs2 imm h = kept_r Or 51 6 0 (lit< tt) (lit< tt) (lit< tt) rd rs1 rs2 imm h
kept And rd rs1 rs2 imm h = kept_r And 51 7 0 (lit< tt) (lit< tt) (lit< tt) rd rs1 rs2 imm h
kept Fence rd rs1 rs2 imm h = kept_bare Fence 28799 15 refl rd rs1 rs2 imm h
kept Ecall rd rs1 rs2 imm h = kept_bare Ecall 4294967295 115 refl rd rs1 rs2 imm h
kept Ebreak rd rs1 rs2 imm h = kept_bare Ebreak 4294967295 1048691 refl rd rs1 rs2 imm h

-- the word of an instruction is read as the instruction
pub decoded : (i : Instruction) → IsInstruction i → instruction (encoding i) ≡ Some i
decoded i h =
    let k = kept i.op i.rd i.rs1 i.rs2 i.imm h in
    let row_matches : matches (encoding i) i.op ≡ true = eq-eqb (bit_and (encoding i) (row_of i.op).mask) (row_of i.op).matching k.matched in
    ap (option_map (read_as (encoding i))) (operation-matched (encoding i) i.op row_matches) ∙ ap (λ (x : Instruction). Some x) k.is_read
