-- Sets of addresses as sorted lists of ranges (first, last), both ends inside, that neither meet nor
-- touch. Use `AreRanges` for a list that is such a set, `is_range_set` where a test has to compute,
-- `has_address` for membership, and `HasJust` for a set that is told by its addresses.
use Rattle.std.specs.Prelude.{◌≡◌, ℕ, ◌+◌, ◌^◌, ◌<◌, ◌≤◌, Bool, true, false, ◌&&◌, nat_lt, nat_le, List, [], ◌∷◌, Option, Some, None}
use Rattle.std.specs.List.{list_any}

-- the ranges begin at low or above, each next one above the address behind the last, and end below 2 ^ 32
abbrev pub AreRangesFrom : ℕ → List (ℕ × ℕ) → Type 0
AreRangesFrom low [] = Unit {0}
AreRangesFrom low (r ∷ rs) = (low ≤ r.0) × (r.0 ≤ r.1) × (r.1 < 2 ^ 32) × AreRangesFrom (r.1 + 2) rs

abbrev pub AreRanges : List (ℕ × ℕ) → Type 0
AreRanges rs = AreRangesFrom 0 rs

-- the same as a test
abbrev pub are_ranges_from : ℕ → List (ℕ × ℕ) → Bool
are_ranges_from low [] = true
are_ranges_from low (r ∷ rs) = nat_le low r.0 && (nat_le r.0 r.1 && (nat_lt r.1 4294967296 && are_ranges_from (r.1 + 2) rs))

abbrev pub is_range_set : List (ℕ × ℕ) → Bool
is_range_set rs = are_ranges_from 0 rs

-- whether a range has an address, and whether a set has it
abbrev pub in_range : ℕ → ℕ × ℕ → Bool
in_range a r = nat_le r.0 a && nat_le a r.1

abbrev pub has_address : ℕ → List (ℕ × ℕ) → Bool
has_address a rs = list_any (in_range a) rs

-- the list is a set of ranges, and has just the addresses that pass a test
pub record HasJust (rs : List (ℕ × ℕ)) (test : ℕ → Bool) : Type 0 where
  pub ranges : AreRanges rs
  pub addresses : (a : ℕ) → has_address a rs ≡ test a

-- a set has one list of ranges: no other list has the same addresses
abbrev pub IsOnlyList : List (ℕ × ℕ) → Type 0
IsOnlyList rs = (ss : List (ℕ × ℕ)) → AreRanges ss → ((a : ℕ) → a < 2 ^ 32 → has_address a ss ≡ has_address a rs) → ss ≡ rs

-- the least address of a set, or None where it has none
abbrev pub IsLeast : List (ℕ × ℕ) → Option ℕ → Type 0
IsLeast rs None = (a : ℕ) → has_address a rs ≡ false
IsLeast rs (Some least) = (has_address least rs ≡ true) × ((a : ℕ) → a < least → has_address a rs ≡ false)
