-- What lies between the ranges of a list. `gaps_upto` tells which addresses of a range below a place are in
-- no range of the list: use `walk_read` where one more range is passed, and `walk_end` at the end.
use Rattle.std.proofs.Common.{◌≡◌, ℕ, ◌+◌, ◌<◌, ◌≤◌, Bool, true, false, ◌&&◌, ◌||◌, not, List, length, get_or, take, Result, Ok, Err, OnOk, refl, sym, ap, ◌∙◌, subst, inl, inr, arith}
use Rattle.std.specs.Prelude.{nat_le, nat_lt}
use Rattle.std.specs.List.{AllWithin}
use Rattle.std.proofs.lemmas.Bool.{cases_lt, lt-leb, le-leb, and_from}
use Rattle.std.proofs.lemmas.Bool.Decides.{nat_tests}
use Rattle.std.proofs.lemmas.List.Folds.{list_any_more, list_any_at}
use Rattle.std.proofs.lemmas.List.{get_or_read}
use Rattle.rvd_fact.specs.Ranges.{AreRanges, in_range, has_address, HasJust}
use Rattle.rvd_fact.proofs.RangeLists.{found_at, found_past, range_at, below_upto, begins, above_next}
use Rattle.rvd_fact.proofs.RangeCuts.{less_or}

-- the gaps of a list below `from`, beside a set
abbrev pub gaps_upto : (rs before : List (ℕ × ℕ)) → ℕ → ℕ → ℕ → Bool
gaps_upto rs before first from a = has_address a before || ((nat_le first a && nat_lt a from) && not (has_address a rs))

gap_point : (old own : Bool) (first from start end a : ℕ) → first ≤ from → start ≤ end → from ≤ end → (from ≤ a → a ≤ end → own ≡ nat_le start a) → ((old || ((nat_le first a && nat_lt a from) && not own)) || (nat_le from a && nat_lt a start)) ≡ (old || ((nat_le first a && nat_lt a (end + 1)) && not own))
gap_point true own first from start end a ff se fe own_is = refl
gap_point false own first from start end a ff se fe own_is = elim (cases_lt a from) [
  | inl before ↦ grind (arith, nat_tests)
  | inr later ↦ elim (cases_lt end a) [
    | inl past ↦ grind (arith, nat_tests)
    | inr here ↦ let is : own ≡ nat_le start a = own_is later here in grind (arith, nat_tests)
  ]
]

-- one more range of a list is passed: what lies between it and `from` is added
pub gap_more : (rs before old new : List (ℕ × ℕ)) (first from i : ℕ) → AreRanges rs → i < length rs → first ≤ from → AllWithin (λ r. r.1 < from) rs 0 i → AllWithin (λ r. from ≤ r.1) rs i (length rs) → HasJust old (gaps_upto rs before first from) → HasJust new (λ a. has_address a old || (nat_le from a && nat_lt a (get_or rs i (0, 0)).0)) → HasJust new (gaps_upto rs before first ((get_or rs i (0, 0)).1 + 1))
gap_more rs before old new first from i t h ff below above o n = record {
  ranges = n.ranges;
  addresses = λ a.
      n.addresses a
      ∙ ap (λ b. b || (nat_le from a && nat_lt a (get_or rs i (0, 0)).0)) (o.addresses a)
      ∙ gap_point (has_address a before) (has_address a rs) first from (get_or rs i (0, 0)).0 (get_or rs i (0, 0)).1 a ff
      ((range_at 0 i (0, 0) rs t h).1) (above i (0, 0) (omega arith) h)
      (λ later end. found_at 0 a i rs t h (λ k d z s. omega (arith, below k d z s, later)) end);
}

-- where a list has no address from one to another, what lies between them is the gap
gap_last_point : (old own : Bool) (first from last a : ℕ) → first ≤ from → (from ≤ a → a ≤ last → own ≡ false) → from ≤ last → ((old || ((nat_le first a && nat_lt a from) && not own)) || in_range a (from, last)) ≡ (old || (in_range a (first, last) && not own))
gap_last_point true own first from last a ff none fl = refl
gap_last_point false own first from last a ff none fl = elim (cases_lt a from) [
  | inl before ↦ grind (arith, nat_tests)
  | inr later ↦ elim (cases_lt last a) [
    | inl past ↦ grind (arith, nat_tests)
    | inr here ↦ let is : own ≡ false = none later here in grind (arith, nat_tests)
  ]
]

pub gap_last : (rs before old new : List (ℕ × ℕ)) (first from last i : ℕ) → AreRanges rs → i ≤ length rs → first ≤ from → from ≤ last → AllWithin (λ r. r.1 < from) rs 0 i → AllWithin (λ r. from ≤ r.1) rs i (length rs) → (i < length rs → last < (get_or rs i (0, 0)).0) → HasJust old (gaps_upto rs before first from) → HasJust new (λ a. has_address a old || in_range a (from, last)) → HasJust new (λ a. has_address a before || (in_range a (first, last) && not (has_address a rs)))
gap_last rs before old new first from last i t bound ff fl below above ends o n = record {
  ranges = n.ranges;
  addresses = λ a.
      n.addresses a
      ∙ ap (λ b. b || in_range a (from, last)) (o.addresses a)
      ∙ gap_last_point (has_address a before) (has_address a rs) first from last a ff (λ later end. elim (cases_lt i (length rs)) [
        | inl more ↦
            let start : last < (get_or rs i (0, 0)).0 = ends more in
            let own : (get_or rs i (0, 0)).0 ≤ (get_or rs i (0, 0)).1 = (range_at 0 i (0, 0) rs t more).1 in
            found_at 0 a i rs t more (λ k d z s. omega (arith, below k d z s, later)) (omega (arith, end, start, own)) ∙ lt-leb (get_or rs i (0, 0)).0 a (omega (arith, end, start))
        | inr past ↦ found_past a rs (λ k d z s. omega (arith, below k d z (omega (arith, past, s)), later))
      ]) fl;
}

-- where the range that was passed reaches the end, the gap ends before it
gap_whole_point : (old own : Bool) (first last start end a : ℕ) → start ≤ last → last ≤ end → (start ≤ a → a ≤ end → own ≡ true) → (old || ((nat_le first a && nat_lt a (end + 1)) && not own)) ≡ (old || (in_range a (first, last) && not own))
gap_whole_point true own first last start end a sl le own_is = refl
gap_whole_point false own first last start end a sl le own_is = elim (cases_lt last a) [
  | inl past ↦ elim (cases_lt end a) [
    | inl above ↦ grind (arith, nat_tests)
    | inr here ↦ let is : own ≡ true = own_is (omega arith) here in grind (arith, nat_tests)
  ]
  | inr within ↦ grind (arith, nat_tests)
]

pub gap_whole : (rs before new : List (ℕ × ℕ)) (first last i : ℕ) → i < length rs → (get_or rs i (0, 0)).0 ≤ last → last ≤ (get_or rs i (0, 0)).1 → HasJust new (gaps_upto rs before first ((get_or rs i (0, 0)).1 + 1)) → HasJust new (λ a. has_address a before || (in_range a (first, last) && not (has_address a rs)))
gap_whole rs before new first last i h sl le n = record {
  ranges = n.ranges;
  addresses = λ a.
      n.addresses a
      ∙ gap_whole_point (has_address a before) (has_address a rs) first last (get_or rs i (0, 0)).0 (get_or rs i (0, 0)).1 a sl le
      (λ from upto. list_any_at (in_range a) rs i (0, 0) h (and_from _ _ (le-leb _ _ from) (le-leb _ _ upto)));
}

-- of the next range what a list of other ranges lacks is added
pub less_more : (rs ss os old new : List (ℕ × ℕ)) (i : ℕ) → ss ≡ rs → i < length ss → HasJust old (λ a. has_address a (take i rs) && not (has_address a os)) → HasJust new (λ a. has_address a old || (in_range a ((get_or ss i (0, 0)).0, (get_or ss i (0, 0)).1) && not (has_address a os))) → HasJust new (λ a. has_address a (take (i + 1) rs) && not (has_address a os))
less_more rs ss os old new i same h o n = record {
  ranges = n.ranges;
  addresses = λ a.
      n.addresses a
      ∙ ap (λ (xs : List (ℕ × ℕ)). has_address a old || (in_range a (get_or xs i (0, 0)) && not (has_address a os))) same
      ∙ ap (λ b. b || (in_range a (get_or rs i (0, 0)) && not (has_address a os))) (o.addresses a)
      ∙ less_or (has_address a (take i rs)) (in_range a (get_or rs i (0, 0))) (not (has_address a os))
      ∙ ap (λ b. b && not (has_address a os)) (sym (list_any_more (in_range a) rs i (0, 0) (subst (λ (xs : List (ℕ × ℕ)). i < length xs) same h)));
}

-- at first nothing is passed
no_gap : (old own : Bool) (first a : ℕ) → old ≡ (old || ((nat_le first a && nat_lt a first) && not own))
no_gap true own first a = refl
no_gap false own first a = grind (arith, nat_tests)

pub gaps_none : (rs before : List (ℕ × ℕ)) (first : ℕ) → AreRanges before → HasJust before (gaps_upto rs before first first)
gaps_none rs before first t = record { ranges = t; addresses = λ a. no_gap (has_address a before) (has_address a rs) first a }

-- nothing is added where the end isn't above the first
no_addition : (old : Bool) (first end a : ℕ) → end ≤ first → old ≡ (old || (nat_le first a && nat_lt a end))
no_addition true first end a h = refl
no_addition false first end a h = grind (arith, nat_tests)

pub none_added : (before : List (ℕ × ℕ)) (first end : ℕ) → AreRanges before → end ≤ first → HasJust before (λ a. has_address a before || (nat_le first a && nat_lt a end))
none_added before first end t h = record { ranges = t; addresses = λ a. no_addition (has_address a before) first end a h }

-- what a walk over the gaps keeps at its place: the ranges before it end below `from`, the others at it or above
pub record IsWalk (rs before now : List (ℕ × ℕ)) (first from i : ℕ) : Type 0 where
  pub start : first ≤ from
  pub bound : i ≤ length rs
  pub below : AllWithin (λ r. r.1 < from) rs 0 i
  pub above : AllWithin (λ r. from ≤ r.1) rs i (length rs)
  pub out : HasJust now (gaps_upto rs before first from)

-- a walk that passes a range that was read
walk_more : (rs before old new : List (ℕ × ℕ)) (first from i : ℕ) → AreRanges rs → i < length rs → IsWalk rs before old first from i → HasJust new (λ a. has_address a old || (nat_le from a && nat_lt a (get_or rs i (0, 0)).0)) → IsWalk rs before new first ((get_or rs i (0, 0)).1 + 1) (i + 1)
walk_more rs before old new first from i t h w n =
    let reach : from ≤ (get_or rs i (0, 0)).1 = w.above i (0, 0) (omega arith) h in
    record {
      start = omega (arith, w.start, reach);
      bound = omega arith;
      below = below_upto ((get_or rs i (0, 0)).1 + 1) i rs t h (omega arith);
      above = above_next i rs t h;
      out = gap_more rs before old new first from i t h w.start w.below w.above w.out n;
    }

pub walk_read : (rs before old new : List (ℕ × ℕ)) (first from i : ℕ) (x : ℕ × ℕ) → AreRanges rs → i < length rs → x ≡ get_or rs i x → IsWalk rs before old first from i → HasJust new (λ a. has_address a old || (nat_le from a && nat_lt a x.0)) → IsWalk rs before new first (x.1 + 1) (i + 1)
walk_read rs before old new first from i x t h is w n =
    subst (λ (r : ℕ × ℕ). HasJust new (λ a. has_address a old || (nat_le from a && nat_lt a r.0)) → IsWalk rs before new first (r.1 + 1) (i + 1)) (sym (get_or_read rs i x h is (0, 0)))
    (walk_more rs before old new first from i t h w) n

-- one that ends inside the range, and one that ends where no range begins
pub walk_inside : (rs before new : List (ℕ × ℕ)) (first last i j : ℕ) (x : ℕ × ℕ) → i < length rs → x ≡ get_or rs i x → (get_or rs i (0, 0)).0 ≤ last → last ≤ x.1 → IsWalk rs before new first (x.1 + 1) j → HasJust new (λ a. has_address a before || (in_range a (first, last) && not (has_address a rs)))
walk_inside rs before new first last i j x h is begins ends w =
    let same : x ≡ get_or rs i (0, 0) = get_or_read rs i x h is (0, 0) in
    gap_whole rs before new first last i h begins (subst (λ (r : ℕ × ℕ). last ≤ r.1) same ends) (subst (λ (r : ℕ × ℕ). HasJust new (gaps_upto rs before first (r.1 + 1))) same w.out)

pub walk_end : {E : Type 0} (r : Result (Unit {0}) E) (rs before old new : List (ℕ × ℕ)) (first from last i : ℕ) → AreRanges rs → from ≤ last → (i < length rs → last < (get_or rs i (0, 0)).0) → IsWalk rs before old first from i → OnOk r (HasJust new (λ a. has_address a old || in_range a (from, last))) → OnOk r (HasJust new (λ a. has_address a before || (in_range a (first, last) && not (has_address a rs))))
walk_end (Ok u) rs before old new first from last i t fl ends w n = gap_last rs before old new first from last i t w.bound w.start fl w.below w.above ends w.out n
walk_end (Err e) rs before old new first from last i t fl ends w n = tt
