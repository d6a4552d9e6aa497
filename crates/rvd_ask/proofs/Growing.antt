-- A list that is filtered by a growing test, again and again, stops changing. Use `long_or_fixed` for that, `has-filter`
-- and `in_filter` for the members of a filtered list, and `any_has` and `any_from` for a scan that finds one.
use Rattle.std.proofs.Common.{◌≡◌, ℕ, zero, suc, ◌<◌, ◌≤◌, Bool, true, false, cond, List, [], ◌∷◌, length, refl, sym, ap, ◌∙◌, subst, inl, inr, ◌⊎◌, arith}
use Rattle.std.specs.Prelude.{filter, ◌==◌}
use Rattle.std.specs.List.{list_any}
use Rattle.std.proofs.lemmas.Bool.{false≢true, or_cases, or_left, or_right, eq-eqb, eqb-true}
use Rattle.rvd_ask.specs.Reach.{times, has}

-- the test q passes wherever p does, on the list
abbrev pub Wider : (ℕ → Bool) → (ℕ → Bool) → List ℕ → Type 0
Wider p q xs = (z : ℕ) → has z xs ≡ true → p z ≡ true → q z ≡ true

tail : (p q : ℕ → Bool) (x : ℕ) (xs : List ℕ) → Wider p q (x ∷ xs) → Wider p q xs
tail p q x xs w z h = w z (or_right (x == z) _ h)

head : (p q : ℕ → Bool) (x : ℕ) (xs : List ℕ) → Wider p q (x ∷ xs) → p x ≡ true → q x ≡ true
head p q x xs w = w x (or_left (x == x) _ (eq-eqb x x refl))

pub filter_no_longer : (p : ℕ → Bool) (xs : List ℕ) → length (filter p xs) ≤ length xs
filter_no_longer p [] = omega arith
filter_no_longer p (x ∷ xs) = elim (p x) as (λ b. length (cond b (x ∷ filter p xs) (filter p xs)) ≤ suc (length xs)) [ true ↦ omega (arith, filter_no_longer p xs) | false ↦ omega (arith, filter_no_longer p xs) ]

pub filter_wider_longer : (p q : ℕ → Bool) (xs : List ℕ) → Wider p q xs → length (filter p xs) ≤ length (filter q xs)
filter_wider_longer p q [] w = omega arith
filter_wider_longer p q (x ∷ xs) w =
    let rest : length (filter p xs) ≤ length (filter q xs) = filter_wider_longer p q xs (tail p q x xs w) in
    elim (p x) as (λ b. p x ≡ b → length (cond b (x ∷ filter p xs) (filter p xs)) ≤ length (filter q (x ∷ xs))) [
      | true ↦ λ e. subst (λ b. suc (length (filter p xs)) ≤ length (cond b (x ∷ filter q xs) (filter q xs))) (sym (head p q x xs w e)) (omega arith)
      | false ↦ λ e. elim (q x) as (λ b. length (filter p xs) ≤ length (cond b (x ∷ filter q xs) (filter q xs))) [ true ↦ omega arith | false ↦ rest ]
    ] refl

-- a wider test that keeps no more keeps the same
pub filter_same : (p q : ℕ → Bool) (xs : List ℕ) → Wider p q xs → length (filter q xs) ≤ length (filter p xs) → filter q xs ≡ filter p xs
filter_same p q [] w l = refl
filter_same p q (x ∷ xs) w l =
    elim (p x) as (λ b. p x ≡ b → length (filter q (x ∷ xs)) ≤ length (cond b (x ∷ filter p xs) (filter p xs)) → filter q (x ∷ xs) ≡ cond b (x ∷ filter p xs) (filter p xs)) [
      | true ↦ λ e l.
          let qx : q x ≡ true = head p q x xs w e in
          let short : length (filter q xs) ≤ length (filter p xs) = subst (λ b. length (cond b (x ∷ filter q xs) (filter q xs)) ≤ suc (length (filter p xs)) → length (filter q xs) ≤ length (filter p xs)) (sym qx) (λ h. omega arith) l in
          ap (λ (b : Bool). cond b (x ∷ filter q xs) (filter q xs)) qx ∙ ap (λ (ys : List ℕ). x ∷ ys) (filter_same p q xs (tail p q x xs w) short)
      | false ↦ λ e l.
          elim (q x) as (λ b. length (cond b (x ∷ filter q xs) (filter q xs)) ≤ length (filter p xs) → cond b (x ∷ filter q xs) (filter q xs) ≡ filter p xs) [
            | true ↦ λ l. absurd (omega (arith, filter_wider_longer p q xs (tail p q x xs w)))
            | false ↦ λ l. filter_same p q xs (tail p q x xs w) l
          ] l
    ] refl l

-- after n steps the list has n elements or has stopped to change
pub long_or_fixed : (f : List ℕ → List ℕ) (x : List ℕ) → ((n : ℕ) → (length (times n f x) < length (times (suc n) f x)) ⊎ (times (suc n) f x ≡ times n f x)) → (n : ℕ) → (n ≤ length (times n f x)) ⊎ (times (suc n) f x ≡ times n f x)
long_or_fixed f x step zero = inl (omega arith)
long_or_fixed f x step (suc n) = elim (long_or_fixed f x step n) [
  | inl long ↦ elim (step n) [ inl more ↦ inl (omega arith) | inr same ↦ inr (ap f same) ]
  | inr same ↦ inr (ap f same)
]

-- who is in a filtered list
pub has-filter : (p : ℕ → Bool) (z : ℕ) (xs : List ℕ) → has z (filter p xs) ≡ true → (has z xs ≡ true) × (p z ≡ true)
has-filter p z [] h = absurd (false≢true h)
has-filter p z (x ∷ xs) h =
    elim (p x) as (λ b. p x ≡ b → has z (cond b (x ∷ filter p xs) (filter p xs)) ≡ true → (has z (x ∷ xs) ≡ true) × (p z ≡ true)) [
      | true ↦ λ e h. elim (or_cases (x == z) (has z (filter p xs)) h) [
        | inl here ↦ (or_left (x == z) _ here, ap p (sym (eqb-true x z here)) ∙ e)
        | inr later ↦ (or_right (x == z) _ (has-filter p z xs later).0, (has-filter p z xs later).1)
      ]
      | false ↦ λ e h. (or_right (x == z) _ (has-filter p z xs h).0, (has-filter p z xs h).1)
    ] refl h

pub in_filter : (p : ℕ → Bool) (z : ℕ) (xs : List ℕ) → has z xs ≡ true → p z ≡ true → has z (filter p xs) ≡ true
in_filter p z [] h is = absurd (false≢true h)
in_filter p z (x ∷ xs) h is =
    elim (or_cases (x == z) (has z xs) h) [
      | inl here ↦ subst (λ b. has z (cond b (x ∷ filter p xs) (filter p xs)) ≡ true) (sym (ap p (eqb-true x z here) ∙ is)) (or_left (x == z) _ here)
      | inr later ↦
          let rest : has z (filter p xs) ≡ true = in_filter p z xs later is in
          elim (p x) as (λ b. has z (cond b (x ∷ filter p xs) (filter p xs)) ≡ true) [ true ↦ or_right (x == z) _ rest | false ↦ rest ]
    ]

-- a scan that says yes has an element that passes
pub any_has : (p : ℕ → Bool) (xs : List ℕ) → list_any p xs ≡ true → (y : ℕ) × (has y xs ≡ true) × (p y ≡ true)
any_has p [] h = absurd (false≢true h)
any_has p (x ∷ xs) h = elim (or_cases (p x) (list_any p xs) h) [
  | inl here ↦ (x, or_left (x == x) _ (eq-eqb x x refl), here)
  | inr later ↦ let r : (y : ℕ) × (has y xs ≡ true) × (p y ≡ true) = any_has p xs later in (r.0, or_right (x == r.0) _ r.1, r.2)
]

pub any_from : (p : ℕ → Bool) (xs : List ℕ) (y : ℕ) → has y xs ≡ true → p y ≡ true → list_any p xs ≡ true
any_from p [] y h is = absurd (false≢true h)
any_from p (x ∷ xs) y h is = elim (or_cases (x == y) (has y xs) h) [
  | inl here ↦ or_left (p x) _ (ap p (eqb-true x y here) ∙ is)
  | inr later ↦ or_right (p x) _ (any_from p xs y later is)
]
