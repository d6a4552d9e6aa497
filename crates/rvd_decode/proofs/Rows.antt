-- No word matches two rows (`one_row`): the checker computes that each two rows ask for different bits where both look. So the
-- operation of a word is the one whose row it matches (`operation-matched`), and there is none where it matches no row
-- (`operation-unmatched`).
use Rattle.std.proofs.Common.{◌&&◌, unwrap_or, ◌≡◌, ℕ, ◌<◌, Bool, true, false, not, cond, Some, None, List, [], ◌∷◌, length, get_or, zero, suc, refl, sym, ap, ◌∙◌, bit_and, arith, lit<}
use Rattle.std.specs.Prelude.{find, ◌==◌}
use Rattle.std.specs.List.{list_all}
use Rattle.std.proofs.lemmas.Bool.{and_parts, eqb-true, eq-eqb, false≢true}
use Rattle.std.proofs.lemmas.Nat.{and_assoc, and_comm}
use Rattle.rvd_decode.specs.declared.insn.Op.{Op}
use Rattle.rvd_decode.specs.declared.insn.Op.TheVariants.{Lui, Auipc, Jal, Jalr, Beq, Bne, Blt, Bge, Bltu, Bgeu, Lb, Lh, Lw, Lbu, Lhu, Sb, Sh, Sw, Addi, Slti, Sltiu, Xori, Ori, Andi, Slli, Srli, Srai, Add, Sub, Sll, Slt, Sltu, Xor, Srl, Sra, Or, And, Fence, Ecall, Ebreak}
use Rattle.rvd_decode.specs.Table.{row_of, ops, matches, operation, NoTwoRows}

-- two rows ask for different bits somewhere that both look at
abbrev differ : Op → Op → Bool
differ a b = not (bit_and (row_of a).matching (row_of b).mask == bit_and (row_of b).matching (row_of a).mask)

-- each row differs from those after it
abbrev all_differ : List Op → Bool
all_differ [] = true
all_differ (a ∷ rest) = list_all (differ a) rest && all_differ rest

-- the table's rows differ
rows_differ : all_differ ops ≡ true
rows_differ = refl

-- two rows that a word matches don't differ
both_match : (w : ℕ) (a b : Op) → matches w a ≡ true → matches w b ≡ true → differ a b ≡ false
both_match w a b p q =
    let r = row_of a in
    let s = row_of b in
    let at_r : bit_and w r.mask ≡ r.matching = eqb-true (bit_and w r.mask) r.matching p in
    let at_s : bit_and w s.mask ≡ s.matching = eqb-true (bit_and w s.mask) s.matching q in
    let same : bit_and r.matching s.mask ≡ bit_and s.matching r.mask =
    ap (λ x. bit_and x s.mask) (sym at_r) ∙ and_assoc s.mask w r.mask ∙ ap (bit_and w) (and_comm r.mask s.mask) ∙ sym (and_assoc r.mask w s.mask) ∙ ap (λ x. bit_and x r.mask) at_s in
    ap not (eq-eqb (bit_and r.matching s.mask) (bit_and s.matching r.mask) same)

-- a name of the list
data IsRow : Op → List Op → Type 0 where
  here : {r : Op} {rs : List Op} → IsRow r (r ∷ rs)
  later : {r s : Op} {rs : List Op} → IsRow r rs → IsRow r (s ∷ rs)

all_at : (p : Op → Bool) (r : Op) (rs : List Op) → list_all p rs ≡ true → IsRow r rs → p r ≡ true
all_at p r [] h i = elim i [ ]
all_at p r (s ∷ rs) h here = (and_parts (p s) (list_all p rs) h).0
all_at p r (s ∷ rs) h (later i) = all_at p r rs (and_parts (p s) (list_all p rs) h).1 i

-- the row that a word matches is the one that is found
found_row : (w : ℕ) (r : Op) (rs : List Op) → all_differ rs ≡ true → IsRow r rs → matches w r ≡ true → find (matches w) rs ≡ Some r
found_row w r [] h i m = elim i [ ]
found_row w r (s ∷ rs) h here m = ap (λ (b : Bool). cond b (Some s) (find (matches w) rs)) m
found_row w r (s ∷ rs) h (later i) m =
    elim (matches w s) as (λ b. matches w s ≡ b → cond b (Some s) (find (matches w) rs) ≡ Some r) [
      | true ↦ λ e. absurd (false≢true (sym (both_match w s r e m) ∙ all_at (differ s) r rs (and_parts _ _ h).0 i))
      | false ↦ λ e. found_row w r rs (and_parts _ _ h).1 i m
    ] refl

nth_of : (d : Op) (rs : List Op) (n : ℕ) → n < length rs → IsRow (get_or rs n d) rs
nth_of d [] n h = absurd (omega arith)
nth_of d (r ∷ rs) zero h = here
nth_of d (r ∷ rs) (suc n) h = later (nth_of d rs n (omega arith))

nth : (n : ℕ) → n < 40 → IsRow (get_or ops n Lui) ops
nth = nth_of Lui ops

-- each operation has a row
row_is : (op : Op) → IsRow op ops
row_is Lui = nth 0 (lit< tt)
row_is Auipc = nth 1 (lit< tt)
row_is Jal = nth 2 (lit< tt)
row_is Jalr = nth 3 (lit< tt)
row_is Beq = nth 4 (lit< tt)
row_is Bne = nth 5 (lit< tt)
row_is Blt = nth 6 (lit< tt)
row_is Bge = nth 7 (lit< tt)
row_is Bltu = nth 8 (lit< tt)
row_is Bgeu = nth 9 (lit< tt)
row_is Lb = nth 10 (lit< tt)
row_is Lh = nth 11 (lit< tt)
row_is Lw = nth 12 (lit< tt)
row_is Lbu = nth 13 (lit< tt)
row_is Lhu = nth 14 (lit< tt)
row_is Sb = nth 15 (lit< tt)
row_is Sh = nth 16 (lit< tt)
row_is Sw = nth 17 (lit< tt)
row_is Addi = nth 18 (lit< tt)
row_is Slti = nth 19 (lit< tt)
row_is Sltiu = nth 20 (lit< tt)
row_is Xori = nth 21 (lit< tt)
row_is Ori = nth 22 (lit< tt)
row_is Andi = nth 23 (lit< tt)
row_is Slli = nth 24 (lit< tt)
row_is Srli = nth 25 (lit< tt)
row_is Srai = nth 26 (lit< tt)
row_is Add = nth 27 (lit< tt)
row_is Sub = nth 28 (lit< tt)
row_is Sll = nth 29 (lit< tt)
row_is Slt = nth 30 (lit< tt)
row_is Sltu = nth 31 (lit< tt)
row_is Xor = nth 32 (lit< tt)
row_is Srl = nth 33 (lit< tt)
row_is Sra = nth 34 (lit< tt)
row_is Or = nth 35 (lit< tt)
row_is And = nth 36 (lit< tt)
row_is Fence = nth 37 (lit< tt)
row_is Ecall = nth 38 (lit< tt)
row_is Ebreak = nth 39 (lit< tt)

-- the operation of a word is the one whose row it matches
pub operation-matched : (w : ℕ) (op : Op) → matches w op ≡ true → operation w ≡ Some op
unfolding operation
operation-matched w op m = found_row w op ops rows_differ (row_is op) m

-- no word matches two rows
pub one_row : NoTwoRows
one_row w a b p q = ap (λ o. unwrap_or o a) (sym (operation-matched w a p) ∙ operation-matched w b q)

-- where none of a list passes, none is found
none_found : (p : Op → Bool) (rs : List Op) → ((r : Op) → p r ≡ true → ⊥) → find p rs ≡ None
none_found p [] h = refl
none_found p (r ∷ rs) h =
    elim (p r) as (λ b. p r ≡ b → cond b (Some r) (find p rs) ≡ None) [
      | true ↦ λ e. absurd (h r e)
      | false ↦ λ e. none_found p rs h
    ] refl

-- a word that matches no row has no operation
pub operation-unmatched : (w : ℕ) → ((op : Op) → matches w op ≡ true → ⊥) → operation w ≡ None
unfolding operation
operation-unmatched w h = none_found (matches w) ops h
