-- Whether one of some numbers in order is in a range, by the first of them that isn't below it. Use `between_some` where there
-- is such a number, and `between_none` where there isn't.
use Rattle.std.proofs.Common.{◌≡◌, ℕ, ◌≤◌, Bool, true, false, cond, ◌&&◌, ◌||◌, List, [], ◌∷◌, refl, sym, ap, ◌∙◌, inl, inr, arith}
use Rattle.std.specs.Prelude.{filter, nat_le}
use Rattle.std.specs.List.{list_any, AllByRecursion}
use Rattle.std.specs.List.Sorted.{IsStrictlySortedBy}
use Rattle.std.specs.declared.cmp.Ordering.TheVariants.{Less}
use Rattle.std.specs.Ordering.{nat_cmp}
use Rattle.std.proofs.lemmas.Bool.{and_from, and_parts, le-leb, leb-true, or_cases, or_left, false≢true}
use Rattle.std.proofs.lemmas.Bool.Decides.{nat_tests}
use Rattle.rvd_fact.specs.Ranges.{in_range}
use Rattle.rvd_wake.proofs.Bools.{agree}

less_is : (x y : ℕ) → nat_cmp x y ≡ Less → x ≤ y
less_is x y h = grind (arith, nat_tests)

-- a number in the range is above one that is below all
some_above : (x first last : ℕ) (xs : List ℕ) → AllByRecursion (λ y. nat_cmp x y ≡ Less) xs → list_any (λ a. in_range a (first, last)) xs ≡ true → nat_le x last ≡ true
some_above x first last [] above h = absurd (false≢true h)
some_above x first last (y ∷ ys) above h = elim (or_cases (in_range y (first, last)) (list_any (λ a. in_range a (first, last)) ys) h) [
  | inl here ↦
      let low : x ≤ y = less_is x y above.0 in
      let high : y ≤ last = leb-true y last (and_parts (nat_le first y) (nat_le y last) here).1 in
      le-leb x last (omega arith)
  | inr later ↦ some_above x first last ys above.1 later
]

cons_head : (x y : ℕ) (xs ys : List ℕ) → x ∷ xs ≡ y ∷ ys → x ≡ y
cons_head x y xs ys e = cc

nil_not_cons : (y : ℕ) (ys : List ℕ) → [] ≡ y ∷ ys → ⊥
nil_not_cons y ys e = cc

cons_not_nil : (y : ℕ) (ys : List ℕ) → y ∷ ys ≡ [] → ⊥
cons_not_nil y ys e = cc

module _ (first last : ℕ) (test : ℕ → Bool) (told : (k : ℕ) → test k ≡ nat_le first k) where
  fails : (x : ℕ) (xs : List ℕ) → test x ≡ false → list_any (λ a. in_range a (first, last)) xs ≡ list_any (λ a. in_range a (first, last)) (x ∷ xs)
  fails x xs breaks = sym (ap (λ b. (b && nat_le x last) || list_any (λ a. in_range a (first, last)) xs) (sym (told x) ∙ breaks))

  passes : (x : ℕ) (xs : List ℕ) → test x ≡ true → AllByRecursion (λ y. nat_cmp x y ≡ Less) xs → nat_le x last ≡ list_any (λ a. in_range a (first, last)) (x ∷ xs)
  passes x xs holds above =
      let here : nat_le first x ≡ true = sym (told x) ∙ holds in
      agree (nat_le x last) (list_any (λ a. in_range a (first, last)) (x ∷ xs))
      (λ h. or_left (in_range x (first, last)) (list_any (λ a. in_range a (first, last)) xs) (and_from (nat_le first x) (nat_le x last) here h))
      (λ h. elim (or_cases (in_range x (first, last)) (list_any (λ a. in_range a (first, last)) xs) h) [
        | inl at_x ↦ (and_parts (nat_le first x) (nat_le x last) at_x).1
        | inr later ↦ some_above x first last xs above later
      ])

  pub between_some : (keys : List ℕ) → IsStrictlySortedBy nat_cmp keys → (next : ℕ) (rest : List ℕ) → filter test keys ≡ next ∷ rest → nat_le next last ≡ list_any (λ a. in_range a (first, last)) keys
  unfolding IsStrictlySortedBy
  between_some [] sorted next rest e = absurd (nil_not_cons next rest e)
  between_some (x ∷ xs) sorted next rest e =
      elim (test x) as (λ b. test x ≡ b → cond b (x ∷ filter test xs) (filter test xs) ≡ next ∷ rest → nat_le next last ≡ list_any (λ a. in_range a (first, last)) (x ∷ xs)) [
        | true ↦ λ holds e. ap (λ k. nat_le k last) (sym (cons_head x next (filter test xs) rest e)) ∙ passes x xs holds sorted.0
        | false ↦ λ breaks e. between_some xs sorted.1 next rest e ∙ fails x xs breaks
      ] refl e

  pub between_none : (keys : List ℕ) → filter test keys ≡ [] → false ≡ list_any (λ a. in_range a (first, last)) keys
  between_none [] e = refl
  between_none (x ∷ xs) e =
      elim (test x) as (λ b. test x ≡ b → cond b (x ∷ filter test xs) (filter test xs) ≡ [] → false ≡ list_any (λ a. in_range a (first, last)) (x ∷ xs)) [
        | true ↦ λ holds e. absurd (cons_not_nil x (filter test xs) e)
        | false ↦ λ breaks e. between_none xs e ∙ fails x xs breaks
      ] refl e
