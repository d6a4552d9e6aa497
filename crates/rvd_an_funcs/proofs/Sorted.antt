-- Distinct numbers that were sorted are the rising list with their members: `sorted_is`.
use Rattle.std.proofs.Common.{◌≡◌, ℕ, suc, ◌+◌, ◌<◌, ◌≤◌, false, List, [], ◌∷◌, length, get_or, sym, ◌∙◌, subst, arith}
use Rattle.std.specs.Prelude.{◌==◌, IsSorted, IsPermutation}
use Rattle.std.specs.List.Sorted.{IsStrictlyIncreasing}
use Rattle.std.specs.Ordering.{nat_cmp}
use Rattle.std.specs.List.{AllByRecursion, IsDistinct}
use Rattle.std.proofs.lemmas.Bool.{or_parts}
use Rattle.std.proofs.lemmas.Bool.Decides.{nat_tests}
use Rattle.std.proofs.lemmas.List.Sorted.{list_any-IsPermutation, IsNonDecreasingBy-from_sort}
use Rattle.std.proofs.lemmas.Map.Keys.{IsDistinct-IsPermutation, IsStrictlyIncreasing-from_distinct}
use Rattle.rvd_ask.specs.Reach.{has}
use Rattle.rvd_an_funcs.proofs.Lists.{Distinct}
use Rattle.rvd_an_funcs.proofs.Rising.{rises_lower, same_rising, Rises}

flips : (x y : ℕ) → (x == y) ≡ (y == x)
flips x y = grind (arith, nat_tests)

others_differ : (x : ℕ) (xs : List ℕ) → has x xs ≡ false → AllByRecursion (λ y. (x == y) ≡ false) xs
others_differ x [] h = tt
others_differ x (y ∷ ys) h =
    let parts = or_parts (y == x) (has x ys) h in
    (flips x y ∙ parts.0, others_differ x ys parts.1)

distinct_is : (xs : List ℕ) → Distinct xs → IsDistinct ◌==◌ xs
unfolding IsDistinct
distinct_is [] d = tt
distinct_is (x ∷ xs) d = (others_differ x xs d.0, distinct_is xs d.1)

increasing_rises : (low : ℕ) (xs : List ℕ) → IsStrictlyIncreasing xs → (0 < length xs → low ≤ get_or xs 0 0) → Rises 1 low xs
increasing_rises low [] up first = tt
increasing_rises low (x ∷ xs) up first = (
  first (omega arith),
  increasing_rises (x + 1) xs
      (λ k h. let same : suc k + 1 ≡ suc (k + 1) = omega arith in subst (λ n. get_or xs k 0 < get_or (x ∷ xs) n 0) same (up (suc k) (omega arith)))
      (λ h. let next : x < get_or xs 0 0 = up 0 (omega arith) in omega arith),
)

shorter_steps : (low : ℕ) (xs : List ℕ) → Rises 4 low xs → Rises 1 low xs
shorter_steps low [] r = tt
shorter_steps low (x ∷ xs) r = (r.0, rises_lower 1 (x + 1) (x + 4) xs (omega arith) (shorter_steps (x + 4) xs r.1))

-- xs are sorted into ys, and zs rise
pub sorted_is : (xs ys zs : List ℕ) → Distinct xs → IsPermutation xs ys → IsSorted nat_cmp ys → Rises 4 0 zs → ((z : ℕ) → has z xs ≡ has z zs) → ys ≡ zs
sorted_is xs ys zs d moved sorted rise same =
    let up : IsStrictlyIncreasing ys = IsStrictlyIncreasing-from_distinct ys (IsNonDecreasingBy-from_sort (λ x. x) ys sorted) (IsDistinct-IsPermutation ◌==◌ flips xs ys moved (distinct_is xs d)) in
    let members : (z : ℕ) → has z ys ≡ has z zs = λ z. sym (list_any-IsPermutation (λ y. y == z) xs ys moved) ∙ same z in
    same_rising 1 0 ys zs (omega arith) (increasing_rises 0 ys up (λ h. omega arith)) (shorter_steps 0 zs rise)
    (λ z h. sym (members z) ∙ h)
    (λ z h. members z ∙ h)
