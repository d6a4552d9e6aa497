-- A word from its six fields opcode, rd, funct3, rs1, rs2 and funct7, and back. Use `six` to compare words field by field:
-- each format's fields are made of these six.
use Rattle.std.proofs.Common.{◌≡◌, ℕ, ◌+◌, ◌*◌, ◌/◌, ◌%◌, ◌<◌, ◌∙◌, bit_and, arith}
use Rattle.rvd_decode.proofs.Masks.{keeps_7f, keeps_707f, keeps_fe00707f}

-- the word with six fields
abbrev pub six : (opcode rd funct3 rs1 rs2 funct7 : ℕ) → ℕ
six opcode rd funct3 rs1 rs2 funct7 = opcode + rd * 128 + funct3 * 4096 + rs1 * 32768 + rs2 * 1048576 + funct7 * 33554432

-- the six fields are in range
pub record IsSix (opcode rd funct3 rs1 rs2 funct7 : ℕ) : Type 0 where
  pub opcode_fits : opcode < 128
  pub rd_fits : rd < 32
  pub funct3_fits : funct3 < 8
  pub rs1_fits : rs1 < 32
  pub rs2_fits : rs2 < 32
  pub funct7_fits : funct7 < 128

-- what a word is read as, by its fields
pub record HasSix (w opcode rd funct3 rs1 rs2 funct7 : ℕ) : Type 0 where
  pub opcode_is : w % 128 ≡ opcode
  pub rd_is : w / 128 % 32 ≡ rd
  pub funct3_is : w / 4096 % 8 ≡ funct3
  pub rs1_is : w / 32768 % 32 ≡ rs1
  pub rs2_is : w / 1048576 % 32 ≡ rs2
  pub funct7_is : w / 33554432 % 128 ≡ funct7

module _ (w c0 c1 c2 c3 c4 c5 : ℕ) where
  pub has_six : IsSix c0 c1 c2 c3 c4 c5 → w ≡ six c0 c1 c2 c3 c4 c5 → HasSix w c0 c1 c2 c3 c4 c5
  has_six h e = record {
    opcode_is = omega arith;
    rd_is = omega arith;
    funct3_is = omega arith;
    rs1_is = omega arith;
    rs2_is = omega arith;
    funct7_is = omega arith;
  }

  -- the immediates' bits by the six fields
  pub i_value : HasSix w c0 c1 c2 c3 c4 c5 → w / 1048576 % 4096 ≡ c4 + c5 * 32
  i_value h = omega arith

  pub s_value : HasSix w c0 c1 c2 c3 c4 c5 → w / 33554432 % 128 * 32 + w / 128 % 32 ≡ c5 * 32 + c1
  s_value h = omega arith

  pub b_value : HasSix w c0 c1 c2 c3 c4 c5 → w / 2147483648 % 2 * 4096 + w / 128 % 2 * 2048 + w / 33554432 % 64 * 32 + w / 256 % 16 * 2 ≡ c5 / 64 * 4096 + c1 % 2 * 2048 + c5 % 64 * 32 + c1 / 2 * 2
  b_value h =
      let a : w / 2147483648 % 2 ≡ c5 / 64 = omega arith in
      let b : w / 128 % 2 ≡ c1 % 2 = omega arith in
      let c : w / 33554432 % 64 ≡ c5 % 64 = omega arith in
      let d : w / 256 % 16 ≡ c1 / 2 = omega arith in
      λ j. a j * 4096 + b j * 2048 + c j * 32 + d j * 2

  pub u_value : HasSix w c0 c1 c2 c3 c4 c5 → w / 4096 % 1048576 ≡ c2 + c3 * 8 + c4 * 256 + c5 * 8192
  u_value h = omega arith

  pub j_value : HasSix w c0 c1 c2 c3 c4 c5 → w / 2147483648 % 2 * 1048576 + w / 4096 % 256 * 4096 + w / 1048576 % 2 * 2048 + w / 2097152 % 1024 * 2 ≡ c5 / 64 * 1048576 + (c2 + c3 * 8) * 4096 + c4 % 2 * 2048 + (c4 / 2 + c5 % 64 * 16) * 2
  j_value h =
      let a : w / 2147483648 % 2 ≡ c5 / 64 = omega arith in
      let b : w / 4096 % 256 ≡ c2 + c3 * 8 = omega arith in
      let c : w / 1048576 % 2 ≡ c4 % 2 = omega arith in
      let d : w / 2097152 % 1024 ≡ c4 / 2 + c5 % 64 * 16 = omega arith in
      λ j. a j * 1048576 + b j * 4096 + c j * 2048 + d j * 2

  -- what the masks keep of it
  pub opcode_kept : HasSix w c0 c1 c2 c3 c4 c5 → bit_and w 127 ≡ c0
  opcode_kept h = keeps_7f w ∙ h.opcode_is

  pub funct3_kept : HasSix w c0 c1 c2 c3 c4 c5 → bit_and w 28799 ≡ c0 + c2 * 4096
  funct3_kept h = keeps_707f w ∙ (λ j. h.opcode_is j + h.funct3_is j * 4096)

  pub funct7_kept : HasSix w c0 c1 c2 c3 c4 c5 → bit_and w 4261441663 ≡ c0 + c2 * 4096 + c5 * 33554432
  funct7_kept h = keeps_fe00707f w ∙ (λ j. h.opcode_is j + h.funct3_is j * 4096 + h.funct7_is j * 33554432)
