-- A word that matches a row finds its operation, or the twin of it, at the word's place of the opcode map (`placed`).
use Rattle.std.proofs.Common.{◌≡◌, ℕ, zero, suc, ◌+◌, ◌*◌, ◌/◌, ◌%◌, ◌<◌, true, false, Option, Some, None, [], get_or, refl, sym, subst, ◌∙◌, inl, inr, bit_and, arith}
use Rattle.std.proofs.lemmas.Bool.{eqb-true, false≢true}
use Rattle.rvd_decode.specs.declared.insn.Op.{Op}
use Rattle.rvd_decode.specs.declared.insn.Op.TheVariants.{Lui, Auipc, Jal, Jalr, Beq, Bne, Blt, Bge, Bltu, Bgeu, Lb, Lh, Lw, Lbu, Lhu, Sb, Sh, Sw, Addi, Slti, Sltiu, Xori, Ori, Andi, Slli, Srli, Srai, Add, Sub, Sll, Slt, Sltu, Xor, Srl, Sra, Or, And, Fence, Ecall, Ebreak}
use Rattle.rvd_decode.specs.declared.opcode_map.TheConstants.{OPCODE_MAP}
use Rattle.rvd_decode.specs.Table.{matches}
use Rattle.rvd_decode.specs.OpcodeMap.{twin, IsAmong}
use Rattle.rvd_decode.proofs.Masks.{keeps_7f, keeps_707f, keeps_fe00707f, keeps_ffffffff}

-- what the map has at an opcode and a funct3
abbrev cell : ℕ → ℕ → Option Op
cell opcode funct3 = get_or (get_or OPCODE_MAP opcode []) funct3 None

-- a word has the opcode and the funct3 of the bits of a row, so it has the row's place
abbrev IsPlaced : ℕ → Op → Type 0
IsPlaced w op = IsAmong (cell (w / 4 % 32) (w / 4096 % 8)) op

moved : (op : Op) (i j k l : ℕ) → i ≡ k → j ≡ l → IsAmong (cell k l) op → IsAmong (cell i j) op
moved op i j k l p q h =
    let P : ℕ → Type 0 = λ n. IsAmong (cell n j) op in
    let Q : ℕ → Type 0 = λ n. IsAmong (cell k n) op in
    subst P (sym p) (subst Q (sym q) h)

-- a fact for each funct3
each : (P : ℕ → Type 0) → P 0 → P 1 → P 2 → P 3 → P 4 → P 5 → P 6 → P 7 → (f : ℕ) → f < 8 → P f
each P a b c d e f g h zero l = a
each P a b c d e f g h (suc zero) l = b
each P a b c d e f g h (suc (suc zero)) l = c
each P a b c d e f g h (suc (suc (suc zero))) l = d
each P a b c d e f g h (suc (suc (suc (suc zero)))) l = e
each P a b c d e f g h (suc (suc (suc (suc (suc zero))))) l = f
each P a b c d e f g h (suc (suc (suc (suc (suc (suc zero)))))) l = g
each P a b c d e f g h (suc (suc (suc (suc (suc (suc (suc zero))))))) l = h
each P a b c d e f g h (suc (suc (suc (suc (suc (suc (suc (suc n)))))))) l = absurd (omega arith)

at_7f : (w v : ℕ) (op : Op) → bit_and w 127 ≡ v → ((f : ℕ) → f < 8 → IsAmong (cell (v / 4 % 32) f) op) → IsPlaced w op
at_7f w v op m h =
    let e : w % 128 ≡ v = sym (keeps_7f w) ∙ m in
    moved op (w / 4 % 32) (w / 4096 % 8) (v / 4 % 32) (w / 4096 % 8) (omega arith) refl (h (w / 4096 % 8) (omega arith))

at_707f : (w v : ℕ) (op : Op) → bit_and w 28799 ≡ v → IsAmong (cell (v / 4 % 32) (v / 4096 % 8)) op → IsPlaced w op
at_707f w v op m h =
    let e : w % 128 + w / 4096 % 8 * 4096 ≡ v = sym (keeps_707f w) ∙ m in
    moved op (w / 4 % 32) (w / 4096 % 8) (v / 4 % 32) (v / 4096 % 8) (omega arith) (omega arith) h

at_fe00707f : (w v : ℕ) (op : Op) → bit_and w 4261441663 ≡ v → IsAmong (cell (v / 4 % 32) (v / 4096 % 8)) op → IsPlaced w op
at_fe00707f w v op m h =
    let e : w % 128 + w / 4096 % 8 * 4096 + w / 33554432 % 128 * 33554432 ≡ v = sym (keeps_fe00707f w) ∙ m in
    moved op (w / 4 % 32) (w / 4096 % 8) (v / 4 % 32) (v / 4096 % 8) (omega arith) (omega arith) h

at_ffffffff : (w v : ℕ) (op : Op) → bit_and w 4294967295 ≡ v → IsAmong (cell (v / 4 % 32) (v / 4096 % 8)) op → IsPlaced w op
at_ffffffff w v op m h =
    let e : w % 4294967296 ≡ v = sym (keeps_ffffffff w) ∙ m in
    moved op (w / 4 % 32) (w / 4096 % 8) (v / 4 % 32) (v / 4096 % 8) (omega arith) (omega arith) h

-- a word's place has the operation whose row the word matches
pub placed : (w : ℕ) (op : Op) → matches w op ≡ true → IsPlaced w op
placed w Lui h = at_7f w 55 Lui (eqb-true _ _ h) (each _ (inl refl) (inl refl) (inl refl) (inl refl) (inl refl) (inl refl) (inl refl) (inl refl))
placed w Auipc h = at_7f w 23 Auipc (eqb-true _ _ h) (each _ (inl refl) (inl refl) (inl refl) (inl refl) (inl refl) (inl refl) (inl refl) (inl refl))
placed w Jal h = at_7f w 111 Jal (eqb-true _ _ h) (each _ (inl refl) (inl refl) (inl refl) (inl refl) (inl refl) (inl refl) (inl refl) (inl refl))
placed w Jalr h = at_707f w 103 Jalr (eqb-true _ _ h) (inl refl)
placed w Beq h = at_707f w 99 Beq (eqb-true _ _ h) (inl refl)
placed w Bne h = at_707f w 4195 Bne (eqb-true _ _ h) (inl refl)
placed w Blt h = at_707f w 16483 Blt (eqb-true _ _ h) (inl refl)
placed w Bge h = at_707f w 20579 Bge (eqb-true _ _ h) (inl refl)
placed w Bltu h = at_707f w 24675 Bltu (eqb-true _ _ h) (inl refl)
placed w Bgeu h = at_707f w 28771 Bgeu (eqb-true _ _ h) (inl refl)
placed w Lb h = at_707f w 3 Lb (eqb-true _ _ h) (inl refl)
placed w Lh h = at_707f w 4099 Lh (eqb-true _ _ h) (inl refl)
placed w Lw h = at_707f w 8195 Lw (eqb-true _ _ h) (inl refl)
placed w Lbu h = at_707f w 16387 Lbu (eqb-true _ _ h) (inl refl)
placed w Lhu h = at_707f w 20483 Lhu (eqb-true _ _ h) (inl refl)
placed w Sb h = at_707f w 35 Sb (eqb-true _ _ h) (inl refl)
placed w Sh h = at_707f w 4131 Sh (eqb-true _ _ h) (inl refl)
placed w Sw h = at_707f w 8227 Sw (eqb-true _ _ h) (inl refl)
placed w Addi h = at_707f w 19 Addi (eqb-true _ _ h) (inl refl)
placed w Slti h = at_707f w 8211 Slti (eqb-true _ _ h) (inl refl)
placed w Sltiu h = at_707f w 12307 Sltiu (eqb-true _ _ h) (inl refl)
placed w Xori h = at_707f w 16403 Xori (eqb-true _ _ h) (inl refl)
placed w Ori h = at_707f w 24595 Ori (eqb-true _ _ h) (inl refl)
placed w Andi h = at_707f w 28691 Andi (eqb-true _ _ h) (inl refl)
placed w Slli h = at_fe00707f w 4115 Slli (eqb-true _ _ h) (inl refl)
placed w Srli h = at_fe00707f w 20499 Srli (eqb-true _ _ h) (inl refl)
placed w Srai h = at_fe00707f w 1073762323 Srai (eqb-true _ _ h) (inr refl)
placed w Add h = at_fe00707f w 51 Add (eqb-true _ _ h) (inl refl)
placed w Sub h = at_fe00707f w 1073741875 Sub (eqb-true _ _ h) (inr refl)
placed w Sll h = at_fe00707f w 4147 Sll (eqb-true _ _ h) (inl refl)
placed w Slt h = at_fe00707f w 8243 Slt (eqb-true _ _ h) (inl refl)
placed w Sltu h = at_fe00707f w 12339 Sltu (eqb-true _ _ h) (inl refl)
placed w Xor h = at_fe00707f w 16435 Xor (eqb-true _ _ h) (inl refl)
placed w Srl h = at_fe00707f w 20531 Srl (eqb-true _ _ h) (inl refl)
placed w Sra h = at_fe00707f w 1073762355 Sra (eqb-true _ _ h) (inr refl)
placed w Or h = at_fe00707f w 24627 Or (eqb-true _ _ h) (inl refl)
placed w And h = at_fe00707f w 28723 And (eqb-true _ _ h) (inl refl)
placed w Fence h = at_707f w 15 Fence (eqb-true _ _ h) (inl refl)
placed w Ecall h = at_ffffffff w 115 Ecall (eqb-true _ _ h) (inl refl)
placed w Ebreak h = at_ffffffff w 1048691 Ebreak (eqb-true _ _ h) (inr refl)

-- where the map's operation for a word doesn't match, and its twin doesn't either, no row does
pub unplaced : (w : ℕ) (first : Op) (second : Option Op) → ((op : Op) → matches w op ≡ true → IsAmong (Some first) op) → matches w first ≡ false → second ≡ twin first → ((op : Op) → second ≡ Some op → matches w op ≡ false) → (op : Op) → matches w op ≡ true → ⊥
unplaced w first second among no_first is no_second op m =
    elim (among op m) [
      | inl e ↦ let P : Op → Type 0 = λ o. matches w o ≡ false in false≢true (sym (subst P e no_first) ∙ m)
      | inr e ↦ false≢true (sym (no_second op (is ∙ e)) ∙ m)
    ]
