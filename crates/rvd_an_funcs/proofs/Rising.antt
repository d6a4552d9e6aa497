-- Lists of numbers that rise by steps of at least a length. Use `rises_filter` for a part of one, `rises_apart` where members
-- are known to lie farther apart, and `same_rising` for that lists which rise and have the same members are one.
use Rattle.std.proofs.Common.{◌≡◌, ◌≢◌, ℕ, ◌+◌, ◌≤◌, ◌<◌, Bool, true, false, cond, List, [], ◌∷◌, refl, inl, inr, arith}
use Rattle.rvd_an_funcs.proofs.Lists.{has_first}
use Rattle.std.specs.Prelude.{filter, ◌==◌}
use Rattle.std.proofs.lemmas.Bool.{eqb-true, false≢true, or_cases, or_right}
use Rattle.rvd_ask.specs.Reach.{has}

-- the first is low or above, and each next one a step or more above the one before
abbrev pub Rises : ℕ → ℕ → List ℕ → Type 0
Rises step low [] = Unit {0}
Rises step low (x ∷ xs) = (low ≤ x) × Rises step (x + step) xs

pub rises_lower : (step low high : ℕ) (xs : List ℕ) → low ≤ high → Rises step high xs → Rises step low xs
rises_lower step low high [] l r = tt
rises_lower step low high (x ∷ xs) l r = (omega arith, r.1)

-- a higher start, where all members are above it
rises_higher : (step low high : ℕ) (xs : List ℕ) → Rises step low xs → ((z : ℕ) → has z xs ≡ true → high ≤ z) → Rises step high xs
rises_higher step low high [] r over = tt
rises_higher step low high (x ∷ xs) r over = (over x (has_first x xs), r.1)

-- no member is below the start
pub none_lower : (step low z : ℕ) (xs : List ℕ) → Rises step low xs → has z xs ≡ true → low ≤ z
none_lower step low z [] r h = absurd (false≢true h)
none_lower step low z (x ∷ xs) r h = elim (or_cases (x == z) (has z xs) h) [
  | inl here ↦ omega (arith, eqb-true x z here)
  | inr later ↦ omega (arith, none_lower step (x + step) z xs r.1 later)
]

pub rises_filter : (step low : ℕ) (p : ℕ → Bool) (xs : List ℕ) → Rises step low xs → Rises step low (filter p xs)
rises_filter step low p [] r = tt
rises_filter step low p (x ∷ xs) r =
    let rest : Rises step (x + step) (filter p xs) = rises_filter step (x + step) p xs r.1 in
    elim (p x) as (λ b. Rises step low (cond b (x ∷ filter p xs) (filter p xs))) [
      | true ↦ (r.0, rest)
      | false ↦ rises_lower step low (x + step) (filter p xs) (omega arith) rest
    ]

-- longer steps, where members are that far apart
pub rises_apart : (step low : ℕ) (xs : List ℕ) → Rises 1 low xs → ((a b : ℕ) → has a xs ≡ true → has b xs ≡ true → a < b → a + step ≤ b) → Rises step low xs
rises_apart step low [] r apart = tt
rises_apart step low (x ∷ xs) r apart =
    let rest : Rises step (x + 1) xs = rises_apart step (x + 1) xs r.1 (λ a b ha hb. apart a b (or_right (x == a) _ ha) (or_right (x == b) _ hb)) in
    (r.0, rises_higher step (x + 1) (x + step) xs rest (λ z h. apart x z (has_first x xs) (or_right (x == z) _ h) (omega (arith, none_lower 1 (x + 1) z xs r.1 h))))

-- a member that isn't the first
behind : (x z : ℕ) (xs : List ℕ) → has z (x ∷ xs) ≡ true → x ≢ z → has z xs ≡ true
behind x z xs h other = elim (or_cases (x == z) (has z xs) h) [
  | inl here ↦ absurd (other (eqb-true x z here))
  | inr later ↦ later
]

-- rising lists with the same members are one
pub same_rising : (step low : ℕ) (xs ys : List ℕ) → 0 < step → Rises step low xs → Rises step low ys → ((z : ℕ) → has z xs ≡ true → has z ys ≡ true) → ((z : ℕ) → has z ys ≡ true → has z xs ≡ true) → xs ≡ ys
same_rising step low [] [] up r s f g = refl
same_rising step low [] (y ∷ ys) up r s f g = absurd (false≢true (g y (has_first y ys)))
same_rising step low (x ∷ xs) [] up r s f g = absurd (false≢true (f x (has_first x xs)))
same_rising step low (x ∷ xs) (y ∷ ys) up r s f g =
    let under : y ≤ x = elim (or_cases (y == x) (has x ys) (f x (has_first x xs))) [
      | inl here ↦ omega (arith, eqb-true y x here)
      | inr later ↦ omega (arith, none_lower step (y + step) x ys s.1 later)
    ] in
    let over : x ≤ y = elim (or_cases (x == y) (has y xs) (g y (has_first y ys))) [
      | inl here ↦ omega (arith, eqb-true x y here)
      | inr later ↦ omega (arith, none_lower step (x + step) y xs r.1 later)
    ] in
    let same : x ≡ y = omega arith in
    let rest : xs ≡ ys = same_rising step (x + step) xs ys up r.1 (rises_lower step (x + step) (y + step) ys (omega arith) s.1)
    (λ z h. behind y z ys (f z (or_right (x == z) _ h)) (λ (e : y ≡ z). absurd (omega (arith, none_lower step (x + step) z xs r.1 h))))
    (λ z h. behind x z xs (g z (or_right (y == z) _ h)) (λ (e : x ≡ z). absurd (omega (arith, none_lower step (y + step) z ys s.1 h)))) in
    λ i. same i ∷ rest i
