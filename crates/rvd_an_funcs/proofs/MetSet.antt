-- A sorted set of numbers by its members: `has-insert_key` for one more, and `has-keys` for the test of the set.
use Rattle.std.proofs.Common.{◌≡◌, ℕ, Bool, true, false, ◌||◌, List, [], ◌∷◌, refl, sym, ap, ◌∙◌, arith}
use Rattle.std.specs.Prelude.{◌==◌}
use Rattle.std.specs.List.{list_any}
use Rattle.std.specs.declared.cmp.Ordering.TheVariants.{Less, Equal, Greater}
use Rattle.std.specs.Ordering.{is_eq, match_ordering, nat_cmp}
use Rattle.std.specs.BTreeMap.{is_at}
use Rattle.std.specs.BTreeSet.{insert_key}
use Rattle.std.proofs.lemmas.Bool.Decides.{nat_tests}
use Rattle.std.proofs.lemmas.Map.Lookups.{exact_unsigned}
use Rattle.std.proofs.Math.Bool.{or_self_left}
use Rattle.rvd_ask.specs.Reach.{has}

swap : (a b c : Bool) → (a || (b || c)) ≡ (b || (a || c))
swap true true c = refl
swap true false c = refl
swap false true c = refl
swap false false c = refl

pub has-insert_key : (z w : ℕ) (ks : List ℕ) → has z (insert_key nat_cmp ks w) ≡ (w == z || has z ks)
has-insert_key z w [] = refl
has-insert_key z w (x ∷ xs) = elim (nat_cmp w x) as (λ r. nat_cmp w x ≡ r → has z (match_ordering r (w ∷ x ∷ xs) (x ∷ xs) (x ∷ insert_key nat_cmp xs w)) ≡ (w == z || (x == z || has z xs))) [
  | Less ↦ λ is. refl
  | Equal ↦ λ is. sym (or_self_left (x == z) (has z xs)) ∙ ap (λ (y : ℕ). y == z || (x == z || has z xs)) (sym (exact_unsigned w x is))
  | Greater ↦ λ is. ap (λ b. x == z || b) (has-insert_key z w xs) ∙ swap (x == z) (w == z) (has z xs)
] refl

same_test : (w k : ℕ) → is_eq (nat_cmp w k) ≡ (k == w)
same_test w k = grind (arith, nat_tests)

pub has-keys : (w : ℕ) (ks : List ℕ) → list_any (is_at (nat_cmp w)) ks ≡ has w ks
has-keys w [] = refl
has-keys w (k ∷ ks) = λ i. same_test w k i || has-keys w ks i
