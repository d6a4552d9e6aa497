-- Tests that agree: `agree` from both ways, `any_as` and `any_or` for whether some element passes, and `all_same` for numbers
-- in either order.
use Rattle.std.proofs.Common.{◌≡◌, ℕ, Bool, true, false, ◌&&◌, ◌||◌, List, [], ◌∷◌, map, refl, sym, ap, ◌∙◌, inl, inr, arith}
use Rattle.std.proofs.Math.Bool.{and-false, and-or_distrib_left, or_assoc, or_comm}
use Rattle.std.proofs.lemmas.Bool.{false≢true, or_cases}
use Rattle.std.proofs.lemmas.Bool.Decides.{nat_tests}
use Rattle.std.specs.Prelude.{Option, Some, None, filter_map, ◌==◌}
use Rattle.std.specs.List.{list_any, cons_option}
use Rattle.std.specs.Option.{option_map_or}

-- two tests of which each says yes where the other does
pub agree : (a b : Bool) → (a ≡ true → b ≡ true) → (b ≡ true → a ≡ true) → a ≡ b
agree true true there back = refl
agree true false there back = absurd (false≢true (there refl))
agree false true there back = absurd (false≢true (back refl))
agree false false there back = refl

pub same_number : (x y : ℕ) → (x == y) ≡ (y == x)
same_number x y = grind (arith, nat_tests)

-- tests that agree at each element
pub any_as : {X : Type 0} (p q : X → Bool) → ((x : X) → p x ≡ q x) → (xs : List X) → list_any p xs ≡ list_any q xs
any_as p q same [] = refl
any_as p q same (x ∷ xs) = λ i. same x i || any_as p q same xs i

or_swap : (a b c d : Bool) → ((a || b) || (c || d)) ≡ ((a || c) || (b || d))
or_swap a b c d = or_assoc a b (c || d) ∙ ap (λ x. a || x) (sym (or_assoc b c d) ∙ ap (λ x. x || d) (or_comm b c) ∙ or_assoc c b d) ∙ sym (or_assoc a c (b || d))

pub any_or : {X : Type 0} (p q : X → Bool) (xs : List X) → list_any (λ x. p x || q x) xs ≡ (list_any p xs || list_any q xs)
any_or p q [] = refl
any_or p q (x ∷ xs) = ap (λ b. (p x || q x) || b) (any_or p q xs) ∙ or_swap (p x) (q x) (list_any p xs) (list_any q xs)

pub any-map : {X Y : Type 0} (p : Y → Bool) (f : X → Y) (xs : List X) → list_any p (map f xs) ≡ list_any (λ x. p (f x)) xs
any-map p f [] = refl
any-map p f (x ∷ xs) = ap (λ b. p (f x) || b) (any-map p f xs)

pub any-filter_map : {X Y : Type 0} (p : Y → Bool) (f : X → Option Y) (xs : List X) → list_any p (filter_map f xs) ≡ list_any (λ x. option_map_or p (f x) false) xs
any-filter_map p f [] = refl
any-filter_map {X = X} {Y = Y} p f (x ∷ xs) = first (f x) ∙ ap (λ b. option_map_or p (f x) false || b) (any-filter_map p f xs)
  where
    first : (o : Option Y) → list_any p (cons_option o (filter_map f xs)) ≡ (option_map_or p o false || list_any p (filter_map f xs))
    first None = refl
    first (Some y) = refl

-- some element that passes
pub any_elim : {X : Type 0} {Q : Type 0} (p : X → Bool) (xs : List X) → list_any p xs ≡ true → ((x : X) → p x ≡ true → Q) → Q
any_elim p [] h use_it = absurd (false≢true h)
any_elim p (x ∷ xs) h use_it = elim (or_cases (p x) (list_any p xs) h) [
  | inl here ↦ use_it x here
  | inr later ↦ any_elim p xs later use_it
]

pub any_none : {X : Type 0} (xs : List X) → list_any (λ x. false) xs ≡ false
any_none [] = refl
any_none (x ∷ xs) = any_none xs

-- a test of the elements of two lists, in either order of them
pub any_any : {X Y : Type 0} (p : X → Y → Bool) (xs : List X) (ys : List Y) → list_any (λ x. list_any (p x) ys) xs ≡ list_any (λ y. list_any (λ x. p x y) xs) ys
any_any p [] ys = sym (any_none ys)
any_any p (x ∷ xs) ys = ap (λ b. list_any (p x) ys || b) (any_any p xs ys) ∙ sym (any_or (p x) (λ y. list_any (λ x. p x y) xs) ys)

-- a part that is the same for all elements
pub any_and : {X : Type 0} (b : Bool) (p : X → Bool) (xs : List X) → list_any (λ x. b && p x) xs ≡ (b && list_any p xs)
any_and b p [] = sym (and-false b)
any_and b p (x ∷ xs) = ap (λ c. (b && p x) || c) (any_and b p xs) ∙ sym (and-or_distrib_left b (p x) (list_any p xs))
