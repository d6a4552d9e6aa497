-- What is joined for 0, 1 and so on: one more piece at the end, and the length where all pieces have one length.
use Rattle.std.proofs.Common.{◌≡◌, ℕ, zero, suc, ◌+◌, ◌*◌, List, [], ◌∷◌, ◌++◌, length, ap, sym, ◌∙◌, arith, add-one, append_assoc, length-append}
use Rattle.std.specs.List.{flat_map, range_with_len}
use Rattle.std.proofs.lemmas.List.Concat.{flat_map-append}
use Rattle.std.proofs.lemmas.List.{append-nil}

range_with_len-more : (a n : ℕ) → range_with_len a (suc n) ≡ range_with_len a n ++ (a + n) ∷ []
range_with_len-more a zero = ap (λ k. k ∷ []) (omega arith)
range_with_len-more a (suc n) = ap (λ xs. a ∷ xs) (range_with_len-more (a + 1) n ∙ ap (λ k. range_with_len (a + 1) n ++ k ∷ []) (omega arith))

flat_map-range_more : (f : ℕ → List ℕ) (n : ℕ) → flat_map f (range_with_len 0 (n + 1)) ≡ flat_map f (range_with_len 0 n) ++ f n
flat_map-range_more f n =
    ap (λ k. flat_map f (range_with_len 0 k)) (add-one n)
    ∙ ap (flat_map f) (range_with_len-more 0 n)
    ∙ flat_map-append f (range_with_len 0 n) ((0 + n) ∷ [])
    ∙ ap (λ xs. flat_map f (range_with_len 0 n) ++ xs) (append-nil (f (0 + n)) ∙ ap f (omega arith))

-- one more piece behind those for the numbers below n
pub one_more : (f : ℕ → List ℕ) (n : ℕ) (before so_far after : List ℕ) → so_far ≡ before ++ flat_map f (range_with_len 0 n) → after ≡ so_far ++ f n
    → after ≡ before ++ flat_map f (range_with_len 0 (n + 1))
one_more f n before so_far after is more =
    more ∙ ap (λ xs. xs ++ f n) is ∙ append_assoc before (flat_map f (range_with_len 0 n)) (f n) ∙ ap (λ xs. before ++ xs) (sym (flat_map-range_more f n))

pub length-flat_map-range : (f : ℕ → List ℕ) (size : ℕ) → ((i : ℕ) → length (f i) ≡ size) → (a n : ℕ) → length (flat_map f (range_with_len a n)) ≡ size * n
length-flat_map-range f size each a zero = omega arith
length-flat_map-range f size each a (suc n) =
    let here = each a in
    let rest = length-flat_map-range f size each (a + 1) n in
    let joined = length-append (f a) (flat_map f (range_with_len (a + 1) n)) in
    omega (arith, here, rest, joined)
