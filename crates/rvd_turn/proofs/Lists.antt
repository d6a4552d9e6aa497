-- Lists in general, for the proofs that steps keep the rule: a fact of each element (`Each`, by recursion) or of some element (`Any`), elements by `get_elem?`, and slots.
-- Use std's lemmas on `All` where the fact is read by index.
use Rattle.std.proofs.Common.{◌≡◌, ℕ, zero, suc, ◌<◌, ◌⊎◌, List, [], ◌∷◌, ◌++◌, length, drop, get_or, refl, sym, ap, subst, inl, inr, ⊎_elim, arith}
use Rattle.std.specs.List.{AllByRecursion as Each}
use Rattle.std.specs.Prelude.{Any, Some}
use mathlib.Core.Option.{some, some-ne-none, some-injective}
use lib.ListN.{get_elem?}

module _ {A : Type 0} where
  pub Each-at : (P : A → Type 0) (l : List A) (k : ℕ) (x : A) → Each P l → get_elem? l k ≡ some x → P x
  Each-at P [] k x h e = absurd (some-ne-none x (sym e))
  Each-at P (y ∷ ys) zero x h e = subst P (some-injective y x e) h.0
  Each-at P (y ∷ ys) (suc k) x h e = Each-at P ys k x h.1 e

  pub Each-get : (P : A → Type 0) (l : List A) (k : ℕ) (d : A) → Each P l → k < length l → P (get_or l k d)
  Each-get P [] k d h e = absurd (omega arith)
  Each-get P (x ∷ xs) zero d h e = h.0
  Each-get P (x ∷ xs) (suc k) d h e = Each-get P xs k d h.1 (omega arith)

  pub Each-imp : (P Q : A → Type 0) (l : List A) → ((x : A) → P x → Q x) → Each P l → Each Q l
  Each-imp P Q [] f h = tt
  Each-imp P Q (x ∷ xs) f h = (f x h.0, Each-imp P Q xs f h.1)

  pub Each-both : (P Q S : A → Type 0) (l : List A) → ((x : A) → P x → Q x → S x) → Each P l → Each Q l → Each S l
  Each-both P Q S [] f h k = tt
  Each-both P Q S (x ∷ xs) f h k = (f x h.0 k.0, Each-both P Q S xs f h.1 k.1)

  pub Each-append : (P : A → Type 0) (xs ys : List A) → Each P xs → Each P ys → Each P (xs ++ ys)
  Each-append P [] ys h k = k
  Each-append P (x ∷ xs) ys h k = (h.0, Each-append P xs ys h.1 k)

  pub at_end : (l : List A) (a b : A) (j : ℕ) → get_elem? (l ++ a ∷ []) j ≡ some b → ((j < length l) × (get_elem? l j ≡ some b)) ⊎ ((j ≡ length l) × (a ≡ b))
  at_end [] a b zero e = inr (refl, some-injective a b e)
  at_end [] a b (suc j) e = absurd (some-ne-none b (sym e))
  at_end (x ∷ xs) a b zero e = inl (omega arith, e)
  at_end (x ∷ xs) a b (suc j) e = elim (at_end xs a b j e) [ inl t ↦ let k = t.0 in inl (omega arith, t.1) | inr t ↦ inr (ap suc t.0, t.1) ]

  pub at_tail : (l : List A) (k : ℕ) (a : A) → get_elem? l (suc k) ≡ some a → get_elem? (drop 1 l) k ≡ some a
  at_tail [] k a e = absurd (some-ne-none a (sym e))
  at_tail (x ∷ xs) k a e = e

  pub at_short : (l : List A) (k : ℕ) (a : A) → get_elem? l k ≡ some a → k < length l
  at_short [] k a e = absurd (some-ne-none a (sym e))
  at_short (x ∷ xs) zero a e = omega arith
  at_short (x ∷ xs) (suc k) a e = let h = at_short xs k a e in omega arith

  pub headed : (l : List A) (a : A) → get_elem? l 0 ≡ some a → l ≡ a ∷ drop 1 l
  headed [] a e = absurd (some-ne-none a (sym e))
  headed (x ∷ xs) a e = ap (λ y. y ∷ xs) (some-injective x a e)

  pub drop_length : (xs ys : List A) → drop (length xs) (xs ++ ys) ≡ ys
  drop_length [] ys = refl
  drop_length (x ∷ xs) ys = drop_length xs ys

module _ {A : Type 0} (P : A → Type 0) where
  pub any_here : (x : A) (xs : List A) → P x → Any P (x ∷ xs)
  any_here x xs p = (zero, x, omega arith, refl, p)

  pub any_later : (x : A) (xs : List A) → Any P xs → Any P (x ∷ xs)
  any_later x xs h = let l = h.2 in (suc h.0, h.1, omega arith, h.3, h.4)

  cons_at : (x : A) (xs : List A) (k : ℕ) (d : A) → k < length (x ∷ xs) → get_or (x ∷ xs) k d ≡ d → P d → P x ⊎ Any P xs
  cons_at x xs zero d l e p = inl (subst P (sym e) p)
  cons_at x xs (suc k) d l e p = inr (k, d, omega arith, e, p)

  pub any_cons : (x : A) (xs : List A) → Any P (x ∷ xs) → P x ⊎ Any P xs
  any_cons x xs h = cons_at x xs h.0 h.1 h.2 h.3 h.4

  pub any_left : (xs ys : List A) → Any P xs → Any P (xs ++ ys)
  any_left [] ys h = let l = h.2 in absurd (omega arith)
  any_left (x ∷ xs) ys h = ⊎_elim (λ p. any_here x (xs ++ ys) p) (λ r. any_later x (xs ++ ys) (any_left xs ys r)) (any_cons x xs h)

  pub any_right : (xs ys : List A) → Any P ys → Any P (xs ++ ys)
  any_right [] ys h = h
  any_right (x ∷ xs) ys h = any_later x (xs ++ ys) (any_right xs ys h)

  pub any_append : (xs ys : List A) → Any P (xs ++ ys) → Any P xs ⊎ Any P ys
  any_append [] ys h = inr h
  any_append (x ∷ xs) ys h = ⊎_elim
      (λ p. inl (any_here x xs p))
      (λ r. ⊎_elim (λ a. inl (any_later x xs a)) (λ b. inr b) (any_append xs ys r))
      (any_cons x (xs ++ ys) h)

abbrev first_value : {A : Type 0} → A → List (ℕ × A) → A
first_value d [] = d
first_value d (p ∷ ps) = p.1

pub slot_value : {A : Type 0} (k n : ℕ) (x y : A) (xs ys : List (ℕ × A)) → (k, x) ∷ xs ≡ (n, y) ∷ ys → x ≡ y
slot_value k n x y xs ys e = ap (first_value x) e
