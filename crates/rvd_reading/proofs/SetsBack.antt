-- Sets of addresses are made of their ranges, one after the other. Use `one_more` in a loop over the ranges of a set.
use Rattle.std.proofs.Common.{◌≡◌, ℕ, zero, suc, ◌+◌, ◌<◌, ◌≤◌, Bool, true, false, ◌&&◌, ◌||◌, List, [], ◌∷◌, ◌++◌, length, take, get_or, refl, sym, ap, ◌∙◌, arith}
use Rattle.std.specs.Prelude.{nat_le, nat_lt}
use Rattle.std.proofs.lemmas.List.{take_more}
use Rattle.std.proofs.lemmas.List.Folds.{list_any-append}
use Rattle.std.proofs.lemmas.Bool.{and_parts, leb-true, ltb-true}
use Rattle.rvd_fact.specs.Ranges.{AreRanges, AreRangesFrom, HasJust, are_ranges_from, has_address, in_range, is_range_set}
use Rattle.rvd_fact.proofs.RangeEquality.{same_sets}

-- what the test of a set tells
from_test : (low : ℕ) (rs : List (ℕ × ℕ)) → are_ranges_from low rs ≡ true → AreRangesFrom low rs
from_test low [] h = tt
from_test low (r ∷ rs) h =
    let begins = and_parts (nat_le low r.0) (nat_le r.0 r.1 && (nat_lt r.1 4294967296 && are_ranges_from (r.1 + 2) rs)) h in
    let ordered = and_parts (nat_le r.0 r.1) (nat_lt r.1 4294967296 && are_ranges_from (r.1 + 2) rs) begins.1 in
    let ends = and_parts (nat_lt r.1 4294967296) (are_ranges_from (r.1 + 2) rs) ordered.1 in
    (leb-true low r.0 begins.0, leb-true r.0 r.1 ordered.0, ltb-true r.1 4294967296 ends.0, from_test (r.1 + 2) rs ends.1)

pub are_ranges : (rs : List (ℕ × ℕ)) → is_range_set rs ≡ true → AreRanges rs
are_ranges rs h = from_test 0 rs h

-- the first ranges of a set are a set
front : (n low : ℕ) (rs : List (ℕ × ℕ)) → AreRangesFrom low rs → AreRangesFrom low (take n rs)
front zero low rs h = tt
front (suc n) low [] h = tt
front (suc n) low (r ∷ rs) h = (h.0, h.1, h.2, front n (r.1 + 2) rs h.3)

or_false : (p : Bool) → (p || false) ≡ p
or_false true = refl
or_false false = refl

-- a set with the next range
pub one_more : (rs : List (ℕ × ℕ)) (i : ℕ) (old new : List (ℕ × ℕ)) → AreRanges rs → i < length rs → old ≡ take i rs
    → HasJust new (λ a. has_address a old || in_range a (get_or rs i (0, 0))) → new ≡ take (i + 1) rs
one_more rs i old new ranges within so_far just =
    let x = get_or rs i (0, 0) in
    let more : take (i + 1) rs ≡ take i rs ++ x ∷ [] = take_more rs i (0, 0) within in
    same_sets new (take (i + 1) rs) (λ a. has_address a old || in_range a x) just (record {
      ranges = front (i + 1) 0 rs ranges;
      addresses = λ a.
          ap (has_address a) more
          ∙ list_any-append (in_range a) (take i rs) (x ∷ [])
          ∙ ap (λ (q : Bool). has_address a (take i rs) || q) (or_false (in_range a x))
          ∙ ap (λ (s : List (ℕ × ℕ)). has_address a s || in_range a x) (sym so_far);
    })
