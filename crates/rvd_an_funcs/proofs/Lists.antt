-- Members of lists. Use the `has_` lemmas for numbers, `pigeons` for that distinct members weigh no more than the list that has
-- them, and `contains_` for elements of other lists.
use Rattle.std.proofs.Common.{◌≡◌, ◌≢◌, ℕ, zero, suc, ◌+◌, ◌<◌, ◌≤◌, true, false, cond, ◌||◌, List, [], ◌∷◌, ◌++◌, length, take, get_or, refl, sym, ap, ◌∙◌, subst, inl, inr, ◌⊎◌, arith}
use Rattle.std.specs.Prelude.{flat_map, sum_by, Contains, ◌==◌}
use Rattle.std.proofs.lemmas.Bool.{false≢true, or_cases, or_left, or_right, or_parts, eq-eqb, eqb-true, false_from_ne_true}
use Rattle.std.proofs.lemmas.List.Elements.{Contains-append_cases, Contains-append_left, Contains-append_right}
use Rattle.std.proofs.lemmas.List.Sums.{sum_by-cons}
use Rattle.rvd_ask.specs.Reach.{has}

-- ---- numbers
pub has_first : (x : ℕ) (xs : List ℕ) → has x (x ∷ xs) ≡ true
has_first x xs = or_left (x == x) _ (eq-eqb x x refl)

pub has_left : (z : ℕ) (xs ys : List ℕ) → has z xs ≡ true → has z (xs ++ ys) ≡ true
has_left z [] ys h = absurd (false≢true h)
has_left z (x ∷ xs) ys h = elim (or_cases (x == z) (has z xs) h) [ inl here ↦ or_left (x == z) _ here | inr later ↦ or_right (x == z) _ (has_left z xs ys later) ]

pub has_right : (z : ℕ) (xs ys : List ℕ) → has z ys ≡ true → has z (xs ++ ys) ≡ true
has_right z [] ys h = h
has_right z (x ∷ xs) ys h = or_right (x == z) _ (has_right z xs ys h)

pub has_either : (z : ℕ) (xs ys : List ℕ) → has z (xs ++ ys) ≡ true → (has z xs ≡ true) ⊎ (has z ys ≡ true)
has_either z [] ys h = inr h
has_either z (x ∷ xs) ys h = elim (or_cases (x == z) (has z (xs ++ ys)) h) [
  | inl here ↦ inl (or_left (x == z) _ here)
  | inr later ↦ elim (has_either z xs ys later) [ inl a ↦ inl (or_right (x == z) _ a) | inr b ↦ inr b ]
]

pub has_one : (z w : ℕ) → has z (w ∷ []) ≡ true → w ≡ z
has_one z w h = elim (or_cases (w == z) false h) [ inl e ↦ eqb-true w z e | inr f ↦ absurd (false≢true f) ]

pub has_take : (z : ℕ) (xs : List ℕ) (n : ℕ) → length xs ≤ n → has z xs ≡ true → has z (take n xs) ≡ true
has_take z [] n l h = absurd (false≢true h)
has_take z (x ∷ xs) zero l h = absurd (omega arith)
has_take z (x ∷ xs) (suc n) l h = elim (or_cases (x == z) (has z xs) h) [ inl here ↦ or_left (x == z) _ here | inr later ↦ or_right (x == z) _ (has_take z xs n (omega arith) later) ]

pub has_at : (xs : List ℕ) (i : ℕ) → i < length xs → has (get_or xs i 0) xs ≡ true
has_at [] i l = absurd (omega arith)
has_at (x ∷ xs) zero l = has_first x xs
has_at (x ∷ xs) (suc i) l = or_right (x == get_or xs i 0) _ (has_at xs i (omega arith))

pub has_in : (f : ℕ → List ℕ) (y z : ℕ) (ys : List ℕ) → has y ys ≡ true → has z (f y) ≡ true → has z (flat_map f ys) ≡ true
has_in f y z [] h in_f = absurd (false≢true h)
has_in f y z (x ∷ xs) h in_f = elim (or_cases (x == y) (has y xs) h) [
  | inl here ↦ has_left z (f x) (flat_map f xs) (subst (λ (w : ℕ). has z (f w) ≡ true) (sym (eqb-true x y here)) in_f)
  | inr later ↦ has_right z (f x) (flat_map f xs) (has_in f y z xs later in_f)
]

pub has_source : (f : ℕ → List ℕ) (z : ℕ) (ys : List ℕ) → has z (flat_map f ys) ≡ true → (y : ℕ) × (has y ys ≡ true) × (has z (f y) ≡ true)
has_source f z [] h = absurd (false≢true h)
has_source f z (x ∷ xs) h = elim (has_either z (f x) (flat_map f xs) h) [
  | inl here ↦ (x, has_first x xs, here)
  | inr later ↦ let s : (y : ℕ) × (has y xs ≡ true) × (has z (f y) ≡ true) = has_source f z xs later in (s.0, or_right (x == s.0) _ s.1, s.2)
]

-- ---- no member comes twice
abbrev pub Distinct : List ℕ → Type 0
Distinct [] = Unit {0}
Distinct (x ∷ xs) = (has x xs ≡ false) × Distinct xs

pub distinct_push : (xs : List ℕ) (w : ℕ) → Distinct xs → has w xs ≡ false → Distinct (xs ++ w ∷ [])
distinct_push [] w d h = (refl, tt)
distinct_push (x ∷ xs) w d h =
    let parts = or_parts (x == w) (has w xs) h in (
      false_from_ne_true (has x (xs ++ w ∷ [])) (λ e. elim (has_either x xs (w ∷ []) e) [
        | inl old ↦ false≢true (sym d.0 ∙ old)
        | inr new ↦ false≢true (sym parts.0 ∙ eq-eqb x w (sym (has_one x w new)))
      ]),
      distinct_push xs w d.1 parts.1,
    )

-- a list without the first of a member
without : ℕ → List ℕ → List ℕ
without x [] = []
without x (y ∷ ys) = cond (y == x) ys (y ∷ without x ys)

sum-without : (f : ℕ → ℕ) (x : ℕ) (ys : List ℕ) → has x ys ≡ true → sum_by f ys ≡ f x + sum_by f (without x ys)
unfolding without
sum-without f x [] h = absurd (false≢true h)
sum-without f x (y ∷ ys) h = elim (y == x) as (λ b. (y == x) ≡ b → (b || has x ys) ≡ true → sum_by f (y ∷ ys) ≡ f x + sum_by f (cond b ys (y ∷ without x ys))) [
  | true ↦ λ same _. sum_by-cons f y ys ∙ ap (λ (w : ℕ). f w + sum_by f ys) (eqb-true y x same)
  | false ↦ λ other later. omega (arith, sum-without f x ys later, sum_by-cons f y ys, sum_by-cons f y (without x ys))
] refl h

has-without : (x z : ℕ) (ys : List ℕ) → has z ys ≡ true → x ≢ z → has z (without x ys) ≡ true
unfolding without
has-without x z [] h apart = absurd (false≢true h)
has-without x z (y ∷ ys) h apart =
    elim (y == x) as (λ b. (y == x) ≡ b → has z (cond b ys (y ∷ without x ys)) ≡ true) [
      | true ↦ λ e. elim (or_cases (y == z) (has z ys) h) [ inl here ↦ absurd (apart (sym (eqb-true y x e) ∙ eqb-true y z here)) | inr later ↦ later ]
      | false ↦ λ e. elim (or_cases (y == z) (has z ys) h) [ inl here ↦ or_left (y == z) _ here | inr later ↦ or_right (y == z) _ (has-without x z ys later apart) ]
    ] refl

-- distinct members of a list weigh no more than its elements
pub pigeons : (f : ℕ → ℕ) (xs ys : List ℕ) → Distinct xs → ((z : ℕ) → has z xs ≡ true → has z ys ≡ true) → sum_by f xs ≤ sum_by f ys
pigeons f [] ys d within = omega arith
pigeons f (x ∷ xs) ys d within =
    let rest : sum_by f xs ≤ sum_by f (without x ys) = pigeons f xs (without x ys) d.1 (λ z h. has-without x z ys (within z (or_right (x == z) _ h)) (λ e. false≢true (sym d.0 ∙ ap (λ (y : ℕ). has y xs) e ∙ h))) in
    omega (arith, sum-without f x ys (within x (has_first x xs)), sum_by-cons f x xs)

-- ---- other lists
pub contains_none : {X : Type 0} (x : X) → Contains [] x → ⊥
contains_none x h = omega (arith, h.1)

pub contains_first : {X : Type 0} (x : X) (xs : List X) → Contains (x ∷ xs) x
contains_first x xs = (0, omega arith, refl)

pub contains_later : {X : Type 0} (y x : X) (xs : List X) → Contains xs x → Contains (y ∷ xs) x
contains_later y x xs h = Contains-append_right (y ∷ []) xs x h

pub contains_cases : {X : Type 0} (y x : X) (xs : List X) → Contains (y ∷ xs) x → (y ≡ x) ⊎ Contains xs x
contains_cases y x xs (zero, less, is) = inl is
contains_cases y x xs (suc k, less, is) = inr (k, omega arith, is)

pub contains_in : {X : Type 0} (f : ℕ → List X) (y : ℕ) (x : X) (ys : List ℕ) → has y ys ≡ true → Contains (f y) x → Contains (flat_map f ys) x
contains_in f y x [] h c = absurd (false≢true h)
contains_in f y x (w ∷ ws) h c = elim (or_cases (w == y) (has y ws) h) [
  | inl here ↦ Contains-append_left (f w) (flat_map f ws) x (subst (λ (v : ℕ). Contains (f v) x) (sym (eqb-true w y here)) c)
  | inr later ↦ Contains-append_right (f w) (flat_map f ws) x (contains_in f y x ws later c)
]

pub contains_source : {X : Type 0} (f : ℕ → List X) (x : X) (ys : List ℕ) → Contains (flat_map f ys) x → (y : ℕ) × (has y ys ≡ true) × Contains (f y) x
contains_source f x [] c = absurd (contains_none x c)
contains_source f x (w ∷ ws) c = elim (Contains-append_cases (f w) (flat_map f ws) x c) [
  | inl here ↦ (w, has_first w ws, here)
  | inr later ↦ let s : (y : ℕ) × (has y ws ≡ true) × Contains (f y) x = contains_source f x ws later in (s.0, or_right (w == s.0) _ s.1, s.2)
]
