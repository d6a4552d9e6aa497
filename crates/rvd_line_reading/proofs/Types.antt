-- What the types of an entry's parts keep, as what it takes for a part to be in its range: of bytes, of a set, and of a list
-- whose elements are gone over.
use Rattle.std.proofs.Common.{◌≡◌, ℕ, zero, suc, ◌+◌, ◌<◌, ◌≤◌, true, List, [], ◌∷◌, length, take, get_or, refl, sym, subst, add-one, arith}
use Rattle.std.specs.List.{All, AllByRecursion}
use Rattle.std.proofs.lemmas.List.{take_all}
use Rattle.rvd_fact.specs.Ranges.{AreRanges, is_range_set}
use Rattle.rvd_fact.proofs.RangeLists.{are_ranges_test}

pub small_bytes : (xs : List ℕ) → ((i : ℕ) → get_or xs i 0 < 256) → AllByRecursion (λ b. b < 256) xs
small_bytes [] small = tt
small_bytes (x ∷ xs) small = (small 0, small_bytes xs (λ i. small (suc i)))

pub each : {A : Type 0} (P : A → Type 0) (xs : List A) → AllByRecursion P xs → All P xs
each P [] h k d l = absurd (omega arith)
each P (x ∷ xs) h zero d l = h.0
each P (x ∷ xs) h (suc k) d l = each P xs h.1 k d (omega arith)

pub ranges_are : (rs : List (ℕ × ℕ)) → AreRanges rs → is_range_set rs ≡ true
ranges_are rs h = are_ranges_test 0 rs h

-- one more element, and all of them
one_more : {A : Type 0} (P : A → Type 0) (xs : List A) (i : ℕ) (x : A) → i < length xs → x ≡ get_or xs i x → AllByRecursion P (take i xs) → P x → AllByRecursion P (take (suc i) xs)
one_more P [] i x within is all p = absurd (omega arith)
one_more P (y ∷ ys) zero x within is all p = (subst P is p, tt)
one_more P (y ∷ ys) (suc i) x within is all p = (all.0, one_more P ys i x (omega arith) is all.1 p)

pub all_more : {A : Type 0} (P : A → Type 0) (xs : List A) (i : ℕ) (x : A) → i < length xs → x ≡ get_or xs i x → AllByRecursion P (take i xs) → P x → AllByRecursion P (take (i + 1) xs)
all_more P xs i x within is all p = subst (λ n. AllByRecursion P (take n xs)) (sym (add-one i)) (one_more P xs i x within is all p)

one_at : {A : Type 0} (P : A → Type 0) (xs : List A) (i : ℕ) (d : A) → i < length xs → AllByRecursion P (take i xs) → P (get_or xs i d) → AllByRecursion P (take (suc i) xs)
one_at P [] i d within all p = absurd (omega arith)
one_at P (y ∷ ys) zero d within all p = (p, tt)
one_at P (y ∷ ys) (suc i) d within all p = (all.0, one_at P ys i d (omega arith) all.1 p)

pub all_at : {A : Type 0} (P : A → Type 0) (xs : List A) (i : ℕ) (d : A) → i < length xs → AllByRecursion P (take i xs) → P (get_or xs i d) → AllByRecursion P (take (i + 1) xs)
all_at P xs i d within all p = subst (λ n. AllByRecursion P (take n xs)) (sym (add-one i)) (one_at P xs i d within all p)

pub all_done : {A : Type 0} (P : A → Type 0) (xs : List A) (n : ℕ) → length xs ≤ n → AllByRecursion P (take n xs) → AllByRecursion P xs
all_done P xs n end all = subst (AllByRecursion P) (take_all n xs end) all
