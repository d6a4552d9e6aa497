-- Lists in a total order, each element once, as sets: what inserting an element, taking a filter and dropping the first
-- ones leave in them. Use `ItemSets` for sets of items.
use Rattle.std.proofs.Common.{◌≡◌, ℕ, zero, suc, ◌+◌, Bool, true, false, cond, not, ◌&&◌, ◌||◌, List, [], ◌∷◌, ◌++◌, length, take, drop, filter, refl, sym, ap, ◌∙◌, subst, inl, inr, arith}
use Rattle.std.proofs.lemmas.Bool.{or_cases, or_left, or_right, true≢false}
use Rattle.std.proofs.lemmas.Cmp.{tied_itself, eq_by_cmp_equiv, alike_right}
use Rattle.std.proofs.lemmas.List.Elements.{recursion_from_All, All-from_recursion}
use Rattle.std.proofs.lemmas.Map.Keys.{sorted_head, sorted_tail}
use Rattle.std.proofs.lemmas.Map.Views.{All-insert_key}
use Rattle.std.specs.BTreeSet.{insert_key}
use Rattle.std.specs.Cmp.{IsTotalOrder}
use Rattle.std.specs.declared.cmp.Ordering.{Ordering}
use Rattle.std.specs.declared.cmp.Ordering.TheVariants.{Less, Equal, Greater}
use Rattle.std.specs.List.{AllByRecursion, list_any}
use Rattle.std.specs.List.Sorted.{IsStrictlySortedBy}
use Rattle.std.specs.Map.{keys_of}
use Rattle.std.specs.Ordering.{eq_by_cmp, is_eq, match_ordering, ordering_reverse}
use Rattle.std.proofs.Math.Bool.{or_self_left}

-- how many elements an insertion adds
abbrev pub added : Bool → ℕ
added there = cond (not there) 1 0

module _ {K : Type 0} {R : K → K → Ordering} (o : IsTotalOrder R) where
  above : (k x : K) → R k x ≡ Greater → R x k ≡ Less
  above k x h = o.antisymm x k ∙ ap ordering_reverse h

  all_above : (k x : K) (xs : List K) → R k x ≡ Less → AllByRecursion (λ y. R x y ≡ Less) xs → AllByRecursion (λ y. R k y ≡ Less) xs
  all_above k x [] less all = tt
  all_above k x (y ∷ ys) less all = (o.trans k x y less all.0, all_above k x ys less all.1)

  all_in : (x k : K) (xs : List K) → R x k ≡ Less → AllByRecursion (λ y. R x y ≡ Less) xs → AllByRecursion (λ y. R x y ≡ Less) (insert_key R xs k)
  all_in x k xs less all = recursion_from_All (λ y. R x y ≡ Less) (insert_key R xs k) (All-insert_key R k (λ y. R x y ≡ Less) xs (All-from_recursion (λ y. R x y ≡ Less) xs all) less)

  pub sorted-insert : (k : K) (xs : List K) → IsStrictlySortedBy R xs → IsStrictlySortedBy R (insert_key R xs k)
  unfolding IsStrictlySortedBy
  sorted-insert k [] s = (tt, tt)
  sorted-insert k (x ∷ xs) s = elim (R k x) as (λ r. R k x ≡ r → IsStrictlySortedBy R (match_ordering r (k ∷ x ∷ xs) (x ∷ xs) (x ∷ insert_key R xs k))) [
    | Less ↦ λ h. ((h, all_above k x xs h s.0), s)
    | Equal ↦ λ h. s
    | Greater ↦ λ h. (all_in x k xs (above k x h) s.0, sorted-insert k xs s.1)
  ] refl

  swapped : (a b c : Bool) → (b || (a || c)) ≡ (a || (b || c))
  swapped true true c = refl
  swapped true false c = refl
  swapped false true c = refl
  swapped false false c = refl

  -- an element is in the list with k exactly if it is k or was in it
  pub any-insert : (q k : K) (xs : List K) → list_any (eq_by_cmp R q) (insert_key R xs k) ≡ (eq_by_cmp R q k || list_any (eq_by_cmp R q) xs)
  any-insert q k [] = refl
  any-insert q k (x ∷ xs) = elim (R k x) as (λ r. R k x ≡ r → list_any (eq_by_cmp R q) (match_ordering r (k ∷ x ∷ xs) (x ∷ xs) (x ∷ insert_key R xs k)) ≡ (eq_by_cmp R q k || (eq_by_cmp R q x || list_any (eq_by_cmp R q) xs))) [
    | Less ↦ λ h. refl
    | Equal ↦ λ h. sym (or_self_left (eq_by_cmp R q x) (list_any (eq_by_cmp R q) xs)) ∙ ap (λ b. b || (eq_by_cmp R q x || list_any (eq_by_cmp R q) xs)) (ap is_eq (sym (alike_right o k x q h)))
    | Greater ↦ λ h. ap (λ b. eq_by_cmp R q x || b) (any-insert q k xs) ∙ swapped (eq_by_cmp R q k) (eq_by_cmp R q x) (list_any (eq_by_cmp R q) xs)
  ] refl

  -- none behind k is k
  pub none_above : (k : K) (xs : List K) → AllByRecursion (λ y. R k y ≡ Less) xs → list_any (eq_by_cmp R k) xs ≡ false
  none_above k [] all = refl
  none_above k (y ∷ ys) all = ap (λ r. is_eq r || list_any (eq_by_cmp R k) ys) all.0 ∙ none_above k ys all.1

  pub length-insert : (k : K) (xs : List K) → IsStrictlySortedBy R xs → length (insert_key R xs k) ≡ length xs + added (list_any (eq_by_cmp R k) xs)
  length-insert k [] s = refl
  length-insert k (x ∷ xs) s = elim (R k x) as (λ r. R k x ≡ r → length (match_ordering r (k ∷ x ∷ xs) (x ∷ xs) (x ∷ insert_key R xs k)) ≡ length (x ∷ xs) + added (is_eq r || list_any (eq_by_cmp R k) xs)) [
    | Less ↦ λ h.
        let none : list_any (eq_by_cmp R k) xs ≡ false = none_above k xs (all_above k x xs h (sorted_head R x xs s)) in
        let count : added (list_any (eq_by_cmp R k) xs) ≡ 1 = ap added none in
        omega (arith, count)
    | Equal ↦ λ h. omega arith
    | Greater ↦ λ h. let rest : length (insert_key R xs k) ≡ length xs + added (list_any (eq_by_cmp R k) xs) = length-insert k xs (sorted_tail R x xs s) in omega (arith, rest)
  ] refl

  pub sorted-drop : (n : ℕ) (xs : List K) → IsStrictlySortedBy R xs → IsStrictlySortedBy R (drop n xs)
  sorted-drop zero xs s = s
  sorted-drop (suc n) [] s = s
  sorted-drop (suc n) (x ∷ xs) s = sorted-drop n xs (sorted_tail R x xs s)

-- a filter of entries keeps the order of their keys
module _ {K X : Type 0} (R : K → K → Ordering) (test : K × X → Bool) where
  all-keys_filter : (P : K → Type 0) (es : List (K × X)) → AllByRecursion P (keys_of es) → AllByRecursion P (keys_of (filter test es))
  all-keys_filter P [] all = tt
  all-keys_filter P (e ∷ es) all = elim (test e) as (λ b. AllByRecursion P (keys_of (cond b (e ∷ filter test es) (filter test es)))) [
    | true ↦ (all.0, all-keys_filter P es all.1)
    | false ↦ all-keys_filter P es all.1
  ]

  pub sorted-keys_filter : (es : List (K × X)) → IsStrictlySortedBy R (keys_of es) → IsStrictlySortedBy R (keys_of (filter test es))
  unfolding IsStrictlySortedBy
  sorted-keys_filter [] s = s
  sorted-keys_filter (e ∷ es) s = elim (test e) as (λ b. IsStrictlySortedBy R (keys_of (cond b (e ∷ filter test es) (filter test es)))) [
    | true ↦ (all-keys_filter (λ k. R e.0 k ≡ Less) es s.0, sorted-keys_filter es s.1)
    | false ↦ sorted-keys_filter es s.1
  ]
