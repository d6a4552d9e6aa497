-- What the masks of the table keep of a word, by division and remainder. Use these to turn a row's test into facts on
-- the fields opcode (w % 128), funct3 (w / 4096 % 8) and funct7 (w / 33554432).
use Rattle.std.proofs.Common.{◌≡◌, ℕ, ◌+◌, ◌*◌, ◌/◌, ◌%◌, sym, ap, ◌∙◌, bit_and, arith}
use Rattle.std.proofs.lemmas.Nat.{and_block, and_mask, shr_split}
use Rattle.std.proofs.lemmas.Nat.Bits.{and_high}

-- the opcode
pub keeps_7f : (w : ℕ) → bit_and w 127 ≡ w % 128
keeps_7f w = and_mask w 7

-- the opcode and funct3
pub keeps_707f : (w : ℕ) → bit_and w 28799 ≡ w % 128 + w / 4096 % 8 * 4096
keeps_707f w =
    ap (λ x. bit_and x 28799) (sym (shr_split w 7))
    ∙ and_block 7 (w / 128) 224 (w % 128) 127 (omega arith) (omega arith)
    ∙ ap (λ x. x * 128 + bit_and (w % 128) 127) (and_high (w / 128) 3 5)
    ∙ ap (λ x. w / 128 / 32 % 8 * 32 * 128 + x) (and_mask (w % 128) 7)
    ∙ omega arith

-- the opcode, funct3 and funct7
pub keeps_fe00707f : (w : ℕ) → bit_and w 4261441663 ≡ w % 128 + w / 4096 % 8 * 4096 + w / 33554432 % 128 * 33554432
keeps_fe00707f w =
    ap (λ x. bit_and x 4261441663) (sym (shr_split w 25))
    ∙ and_block 25 (w / 33554432) 127 (w % 33554432) 28799 (omega arith) (omega arith)
    ∙ ap (λ x. x * 33554432 + bit_and (w % 33554432) 28799) (and_mask (w / 33554432) 7)
    ∙ ap (λ x. w / 33554432 % 128 * 33554432 + x) (keeps_707f (w % 33554432))
    ∙ omega arith

-- the whole word
pub keeps_ffffffff : (w : ℕ) → bit_and w 4294967295 ≡ w % 4294967296
keeps_ffffffff w = and_mask w 32
