-- What a sorted list of ranges tells by its places. Use `found` for a look-up at the place of the first range
-- that ends at an address or above, `range_at` and `rising` for what is known of a range at a place, and
-- `least_some` for the least address.
use Rattle.std.proofs.Common.{◌≡◌, ℕ, zero, suc, ◌+◌, ◌^◌, ◌<◌, ◌≤◌, true, false, ◌&&◌, ◌||◌, List, [], ◌∷◌, length, get_or, Some, None, refl, sym, ap, ◌∙◌, subst, inl, inr, arith}
use Rattle.std.specs.Prelude.{nat_le, nat_lt}
use Rattle.std.specs.List.{AllWithin, slice_get}
use Rattle.std.proofs.lemmas.Bool.{and_from, cases_eq, cases_lt, lt-ltb, le-ltb, lt-leb, le-leb, ltb-true, ltb-false, leb-true, leb-false, and_parts, and_cases, or_from, or_left, and_left, and_right}
use Rattle.std.proofs.lemmas.List.{get_or_default}
use Rattle.rvd_fact.specs.Ranges.{are_ranges_from, AreRangesFrom, AreRanges, in_range, has_address, IsLeast}

-- a later start
pub from_lower : (low high : ℕ) (rs : List (ℕ × ℕ)) → low ≤ high → AreRangesFrom high rs → AreRangesFrom low rs
from_lower low high [] h t = tt
from_lower low high (r ∷ rs) h t = (omega arith, t.1, t.2, t.3)

-- no range has an address below the first
pub none_below : (low a : ℕ) (rs : List (ℕ × ℕ)) → a < low → AreRangesFrom low rs → has_address a rs ≡ false
none_below low a [] h t = refl
none_below low a (r ∷ rs) h t =
    or_from (in_range a r) _ (and_left _ _ (lt-leb r.0 a (omega arith))) (none_below (r.1 + 2) a rs (omega arith) t.3)

-- at the place of the first range that ends at an address or above, that range alone may have the address
pub found_at : (low a i : ℕ) (rs : List (ℕ × ℕ)) → AreRangesFrom low rs → i < length rs → AllWithin (λ r. r.1 < a) rs 0 i → a ≤ (get_or rs i (0, 0)).1 → has_address a rs ≡ nat_le (get_or rs i (0, 0)).0 a
found_at low a i [] t h below at = absurd (omega (arith, h))
found_at low a zero (r ∷ rs) t h below at = elim (cases_lt a r.0) [
  | inl before ↦ or_from (in_range a r) _ (and_left _ _ (lt-leb r.0 a before)) (none_below (r.1 + 2) a rs (omega arith) t.3) ∙ sym (lt-leb r.0 a before)
  | inr from ↦ or_left (in_range a r) _ (ap (λ b. b && nat_le a r.1) (le-leb r.0 a from) ∙ le-leb a r.1 at) ∙ sym (le-leb r.0 a from)
]
found_at low a (suc i) (r ∷ rs) t h below at =
    let here : r.1 < a = below 0 r (omega arith) (omega arith) in
    ap (λ b. b || has_address a rs) (and_right (nat_le r.0 a) _ (lt-leb a r.1 here))
    ∙ found_at (r.1 + 2) a i rs t.3 (omega (arith, h)) (λ k d _ s. below (suc k) d (omega arith) (omega (arith, s))) at

-- where all ranges end below an address, none has it
pub found_past : (a : ℕ) (rs : List (ℕ × ℕ)) → AllWithin (λ r. r.1 < a) rs 0 (length rs) → has_address a rs ≡ false
found_past a [] below = refl
found_past a (r ∷ rs) below =
    let here : r.1 < a = below 0 r (omega arith) (omega arith) in
    or_from (in_range a r) _ (and_right (nat_le r.0 a) _ (lt-leb a r.1 here)) (found_past a rs (λ k d _ s. below (suc k) d (omega arith) (omega (arith, s))))

-- each range begins at its own start or above, ends by 2 ^ 32, and lies below the next ones
pub range_at : (low i : ℕ) (d : ℕ × ℕ) (rs : List (ℕ × ℕ)) → AreRangesFrom low rs → i < length rs → (low ≤ (get_or rs i d).0) × ((get_or rs i d).0 ≤ (get_or rs i d).1) × ((get_or rs i d).1 < 2 ^ 32)
range_at low i d [] t h = absurd (omega (arith, h))
range_at low zero d (r ∷ rs) t h = (t.0, t.1, t.2)
range_at low (suc i) d (r ∷ rs) t h =
    let later : (r.1 + 2 ≤ (get_or rs i d).0) × ((get_or rs i d).0 ≤ (get_or rs i d).1) × ((get_or rs i d).1 < 2 ^ 32) = range_at (r.1 + 2) i d rs t.3 (omega (arith, h)) in
    (omega (arith, t.0, t.1, later.0), later.1, later.2)

pub rising : (low i j : ℕ) (d : ℕ × ℕ) (rs : List (ℕ × ℕ)) → AreRangesFrom low rs → i < j → j < length rs → (get_or rs i d).1 + 2 ≤ (get_or rs j d).0
rising low i j d [] t ij h = absurd (omega (arith, h))
rising low zero zero d (r ∷ rs) t ij h = absurd (omega (arith, ij))
rising low (suc i) zero d (r ∷ rs) t ij h = absurd (omega (arith, ij))
rising low zero (suc j) d (r ∷ rs) t ij h = (range_at (r.1 + 2) j d rs t.3 (omega (arith, h))).0
rising low (suc i) (suc j) d (r ∷ rs) t ij h = rising (r.1 + 2) i j d rs t.3 (omega (arith, ij)) (omega (arith, h))

-- the first address
pub least_none : (rs : List (ℕ × ℕ)) → None ≡ slice_get rs 0 → IsLeast rs None
least_none [] h a = refl
least_none (r ∷ rs) h a = absurd (let no : None ≡ Some r = h in cc)

pub least_some : (rs : List (ℕ × ℕ)) (x : ℕ × ℕ) → AreRanges rs → Some x ≡ slice_get rs 0 → IsLeast rs (Some x.0)
least_some [] x t h = absurd (let no : Some x ≡ None = h in cc)
least_some (r ∷ rs) x t h =
    let same : r ≡ x = (let is : Some x ≡ Some r = h in cc) in
    subst (λ (y : ℕ × ℕ). IsLeast (r ∷ rs) (Some y.0)) same
    (or_left (in_range r.0 r) _ (ap (λ b. b && nat_le r.0 r.1) (le-leb r.0 r.0 (omega arith)) ∙ le-leb r.0 r.1 t.1), λ a h. none_below r.0 a (r ∷ rs) h (omega arith, t.1, t.2, t.3))

-- where a range ends below an address, so do those before it
pub below_upto : (at i : ℕ) (rs : List (ℕ × ℕ)) → AreRanges rs → i < length rs → (get_or rs i (0, 0)).1 < at → AllWithin (λ r. r.1 < at) rs 0 (i + 1)
below_upto at i rs t h below k d _ s = elim (cases_eq k i) [
  | inl same ↦ subst (λ j. (get_or rs j d).1 < at) (sym same) (subst (λ (r : ℕ × ℕ). r.1 < at) (get_or_default rs i (0, 0) d h) below)
  | inr apart ↦
      let before : k < i = omega (arith, s, apart) in
      let rise : (get_or rs k d).1 + 2 ≤ (get_or rs i d).0 = rising 0 k i d rs t before h in
      let own : (get_or rs i d).0 ≤ (get_or rs i d).1 = (range_at 0 i d rs t h).1 in
      let end : (get_or rs i d).1 < at = subst (λ (r : ℕ × ℕ). r.1 < at) (get_or_default rs i (0, 0) d h) below in
      omega (arith, rise, own, end)
]

-- where one doesn't, neither do those behind it
pub above_from : (at i : ℕ) (rs : List (ℕ × ℕ)) → AreRanges rs → i < length rs → at ≤ (get_or rs i (0, 0)).1 → AllWithin (λ r. at ≤ r.1) rs i (length rs)
above_from at i rs t h above k d from s = elim (cases_eq k i) [
  | inl same ↦ subst (λ j. at ≤ (get_or rs j d).1) (sym same) (subst (λ (r : ℕ × ℕ). at ≤ r.1) (get_or_default rs i (0, 0) d h) above)
  | inr apart ↦
      let before : i < k = omega (arith, from, apart) in
      let rise : (get_or rs i d).1 + 2 ≤ (get_or rs k d).0 = rising 0 i k d rs t before s in
      let own : (get_or rs k d).0 ≤ (get_or rs k d).1 = (range_at 0 k d rs t s).1 in
      let end : at ≤ (get_or rs i d).1 = subst (λ (r : ℕ × ℕ). at ≤ r.1) (get_or_default rs i (0, 0) d h) above in
      omega (arith, rise, own, end)
]

-- so the set has the address where the range at that place begins by it
pub found : (a i : ℕ) (rs : List (ℕ × ℕ)) → AreRanges rs → i ≤ length rs → AllWithin (λ r. r.1 < a) rs 0 i → AllWithin (λ r. a ≤ r.1) rs i (length rs) → (nat_lt i (length rs) && nat_le (get_or rs i (0, 0)).0 a) ≡ has_address a rs
found a i rs t bound below above = elim (cases_lt i (length rs)) [
  | inl more ↦ ap (λ b. b && nat_le (get_or rs i (0, 0)).0 a) (lt-ltb i (length rs) more) ∙ sym (found_at 0 a i rs t more below (above i (0, 0) (omega arith) more))
  | inr past ↦ and_left _ _ (le-ltb i (length rs) past) ∙ sym (found_past a rs (λ k d f s. below k d f (omega (arith, past, s))))
]

-- what it tells that a range begins by an address, and that none does
pub begins : (i n x at : ℕ) → true ≡ (nat_lt i n && nat_le x at) → (i < n) × (x ≤ at)
begins i n x at h = (ltb-true i n ((and_parts _ _ (sym h)).0), leb-true x at ((and_parts _ _ (sym h)).1))

pub begins_not : (i n x at : ℕ) → false ≡ (nat_lt i n && nat_le x at) → i < n → at < x
begins_not i n x at h more = elim (and_cases _ _ (sym h)) [
  | inl past ↦ let not_more : n ≤ i = ltb-false i n past in absurd (omega arith)
  | inr above ↦ leb-false x at above
]

-- a range that was read begins by its end
pub range_read : (i : ℕ) (x : ℕ × ℕ) (rs : List (ℕ × ℕ)) → AreRanges rs → i < length rs → x ≡ get_or rs i x → x.0 ≤ x.1
range_read i x rs t h is = subst (λ (r : ℕ × ℕ). r.0 ≤ r.1) (sym is) ((range_at 0 i x rs t h).1)

-- the same of a list that is another
pub begun : (i at : ℕ) (rs ss : List (ℕ × ℕ)) → ss ≡ rs → true ≡ (nat_lt i (length ss) && nat_le (get_or ss i (0, 0)).0 at) → (i < length rs) × ((get_or rs i (0, 0)).0 ≤ at)
begun i at rs ss same h = begins i (length rs) (get_or rs i (0, 0)).0 at (subst (λ (xs : List (ℕ × ℕ)). true ≡ (nat_lt i (length xs) && nat_le (get_or xs i (0, 0)).0 at)) same h)

pub begun_not : (i at : ℕ) (rs ss : List (ℕ × ℕ)) → ss ≡ rs → false ≡ (nat_lt i (length ss) && nat_le (get_or ss i (0, 0)).0 at) → i < length rs → at < (get_or rs i (0, 0)).0
begun_not i at rs ss same h = begins_not i (length rs) (get_or rs i (0, 0)).0 at (subst (λ (xs : List (ℕ × ℕ)). false ≡ (nat_lt i (length xs) && nat_le (get_or xs i (0, 0)).0 at)) same h)

-- bounds that hold within a list hold within the same list
pub below_same : (at at' i : ℕ) (rs ss : List (ℕ × ℕ)) → ss ≡ rs → at ≡ at' → AllWithin (λ r. r.1 < at) ss 0 i → AllWithin (λ r. r.1 < at') rs 0 i
below_same at at' i rs ss same is below = subst (λ (xs : List (ℕ × ℕ)). AllWithin (λ r. r.1 < at') xs 0 i) same (subst (λ n. AllWithin (λ r. r.1 < n) ss 0 i) is below)

pub above_at : (at i k : ℕ) (rs ss : List (ℕ × ℕ)) → ss ≡ rs → AllWithin (λ r. at ≤ r.1) ss i (length ss) → i ≤ k → k < length rs → at ≤ (get_or rs k (0, 0)).1
above_at at i k rs ss same above from h = (subst (λ (xs : List (ℕ × ℕ)). AllWithin (λ r. at ≤ r.1) xs i (length xs)) same above) k (0, 0) from h

pub above_next : (i : ℕ) (rs : List (ℕ × ℕ)) → AreRanges rs → i < length rs → AllWithin (λ r. (get_or rs i (0, 0)).1 + 1 ≤ r.1) rs (i + 1) (length rs)
above_next i rs t h k d from s =
    let rise : (get_or rs i d).1 + 2 ≤ (get_or rs k d).0 = rising 0 i k d rs t (omega arith) s in
    let own : (get_or rs k d).0 ≤ (get_or rs k d).1 = (range_at 0 k d rs t s).1 in
    let same : get_or rs i (0, 0) ≡ get_or rs i d = get_or_default rs i (0, 0) d h in
    subst (λ (r : ℕ × ℕ). r.1 + 1 ≤ (get_or rs k d).1) (sym same) (omega arith)

-- a set of ranges passes the test
pub are_ranges_test : (low : ℕ) (rs : List (ℕ × ℕ)) → AreRangesFrom low rs → are_ranges_from low rs ≡ true
are_ranges_test low [] t = refl
are_ranges_test low (r ∷ rs) t =
    and_from _ _ (le-leb low r.0 t.0) (and_from _ _ (le-leb r.0 r.1 t.1) (and_from _ _ (lt-ltb r.1 4294967296 (omega (arith, t.2))) (are_ranges_test (r.1 + 2) rs t.3)))
