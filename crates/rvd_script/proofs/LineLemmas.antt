-- The lines of a file: the first line, and what stands behind its end. Use them where a reader takes one line after the
-- other.
use Rattle.std.proofs.Common.{◌≡◌, ℕ, suc, ◌+◌, ◌<◌, ◌≤◌, true, false, cond, ◌&&◌, List, [], ◌∷◌, refl, ap, arith, length, drop, take}
use Rattle.std.specs.Prelude.{◌==◌}
use Rattle.rvd_script.specs.Lines.{begins_with_feed, with_byte, lines_of, line_len, behind_end}

-- a carriage return before a line feed: the line ends there
return_ends : (b : ℕ) (bs : List ℕ) → (b == 10) ≡ false → (b == 13 && begins_with_feed bs) ≡ true → lines_of bs ≡ [] ∷ lines_of (drop 1 bs)
return_ends b [] e f = elim (b == 13) as (λ q. (q && false) ≡ true → lines_of [] ≡ [] ∷ lines_of (drop 1 [])) [ true ↦ λ h. absurd (cc) | false ↦ λ h. absurd (cc) ] f
return_ends b (c ∷ cs) e f = elim (b == 13) as (λ q. (q && (c == 10)) ≡ true → lines_of (c ∷ cs) ≡ [] ∷ lines_of cs) [ true ↦ λ h. rw h refl | false ↦ λ h. absurd (cc) ] f

-- a byte in front of the first line
one_more : (b : ℕ) (bs : List ℕ) → (0 < length bs → lines_of bs ≡ take (line_len bs) bs ∷ lines_of (behind_end (drop (line_len bs) bs))) → with_byte b (lines_of bs) ≡ (b ∷ take (line_len bs) bs) ∷ lines_of (behind_end (drop (line_len bs) bs))
one_more b [] first = refl
one_more b (c ∷ cs) first = ap (with_byte b) (first (omega arith))

-- the first line, and those behind its end
pub first_line : (bs : List ℕ) → 0 < length bs → lines_of bs ≡ take (line_len bs) bs ∷ lines_of (behind_end (drop (line_len bs) bs))
first_line [] h = absurd (omega arith)
first_line (b ∷ bs) h = elim (b == 10) as (λ q. (b == 10) ≡ q → let n = cond q 0 (cond (b == 13 && begins_with_feed bs) 0 (suc (line_len bs))) in cond q ([] ∷ lines_of bs) (cond (b == 13 && begins_with_feed bs) (lines_of bs) (with_byte b (lines_of bs))) ≡ take n (b ∷ bs) ∷ lines_of (behind_end (drop n (b ∷ bs)))) [
  | true ↦ λ e. rw e refl
  | false ↦ λ e. elim (b == 13 && begins_with_feed bs) as (λ q. (b == 13 && begins_with_feed bs) ≡ q → let n = cond q 0 (suc (line_len bs)) in cond q (lines_of bs) (with_byte b (lines_of bs)) ≡ take n (b ∷ bs) ∷ lines_of (behind_end (drop n (b ∷ bs)))) [
    | true ↦ λ f. rw e (return_ends b bs e f)
    | false ↦ λ f. one_more b bs (first_line bs)
  ] refl
] refl

length-with_byte : (b : ℕ) (ls : List (List ℕ)) → length (with_byte b ls) ≤ length ls + 1
length-with_byte b [] = omega arith
length-with_byte b (l ∷ ls) = omega arith

-- no more lines than bytes
pub length-lines_of-le : (bs : List ℕ) → length (lines_of bs) ≤ length bs
length-lines_of-le [] = omega arith
length-lines_of-le (b ∷ bs) = elim (b == 10) as (λ q. length (cond q ([] ∷ lines_of bs) (cond (b == 13 && begins_with_feed bs) (lines_of bs) (with_byte b (lines_of bs)))) ≤ suc (length bs)) [
  | true ↦ omega (arith, length-lines_of-le bs)
  | false ↦ elim (b == 13 && begins_with_feed bs) as (λ q. length (cond q (lines_of bs) (with_byte b (lines_of bs))) ≤ suc (length bs)) [
    | true ↦ omega (arith, length-lines_of-le bs)
    | false ↦ omega (arith, length-lines_of-le bs, length-with_byte b (lines_of bs))
  ]
]
