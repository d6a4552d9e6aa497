-- Sets of addresses with one more range. Use `joins` for what adding a range to a set leaves, and `body_length` for how many
-- ranges the set of a body's words has.
use Rattle.std.proofs.Common.{◌≡◌, ℕ, ◌+◌, ◌^◌, ◌<◌, ◌≤◌, true, false, cond, ◌||◌, List, [], ◌∷◌, length, min, max, Result, Ok, Err, OnOk, IfOk, refl, ap, arith}
use Rattle.std.specs.Prelude.{nat_lt}
use Rattle.std.proofs.lemmas.Bool.{and_from, le-leb, ltb-true}
use Rattle.rvd_fact.specs.declared.causes.TextCause.TheVariants.{TooLong}
use Rattle.rvd_fact.specs.Ranges.{AreRanges, in_range, has_address, HasJust, is_range_set}
use Rattle.rvd_fact.proofs.RangeEquality.{same_sets}
use Rattle.rvd_fact.proofs.RangeJoins.{ranges-joined, has-joined}
use Rattle.rvd_event.specs.Edits.{has_body_ranges}
use Rattle.rvd_script.specs.declared.errors.PartError.{PartError}
use Rattle.rvd_script.specs.RangeLines.{joined, range_of, with_range, with_ranges}
use Rattle.rvd_script.specs.Steps.{◌>>=◌, Reads}
use Rattle.rvd_script.specs.Words.{is_empty}

-- a set that has just the addresses of another and of a range is the joined one
pub joins : {E : Type 0} (r : Result (Unit {0}) E) (old new : List (ℕ × ℕ)) (first last : ℕ) → AreRanges old → first ≤ last → last < 2 ^ 32 → OnOk r (HasJust new (λ a. has_address a old || in_range a (first, last))) → OnOk r (new ≡ joined old first last)
joins (Ok u) old new first last t order small just =
    same_sets new (joined old first last) (λ a. has_address a old || in_range a (first, last)) just
    (record { ranges = ranges-joined 0 first last old (omega arith) order small t; addresses = λ a. has-joined a 0 first last old order t })
joins (Err e) old new first last t order small just = tt

-- how many ranges there are with one more
length-joined : (rs : List (ℕ × ℕ)) (f l : ℕ) → (0 < length (joined rs f l)) × (length (joined rs f l) ≤ length rs + 1)
length-joined [] f l = (omega arith, omega arith)
length-joined (r ∷ rs) f l = elim (nat_lt (r.1 + 1) f) as (λ b. let js = cond b (r ∷ joined rs f l) (cond (nat_lt (l + 1) r.0) ((f, l) ∷ r ∷ rs) (joined rs (min f r.0) (max l r.1))) in (0 < length js) × (length js ≤ length (r ∷ rs) + 1)) [
  | true ↦ let more = length-joined rs f l in (omega arith, omega arith)
  | false ↦ elim (nat_lt (l + 1) r.0) as (λ b. let js = cond b ((f, l) ∷ r ∷ rs) (joined rs (min f r.0) (max l r.1)) in (0 < length js) × (length js ≤ length (r ∷ rs) + 1)) [
    | true ↦ (omega arith, omega arith)
    | false ↦ let more = length-joined rs (min f r.0) (max l r.1) in (omega arith, omega arith)
  ]
]

-- how many ranges there are with those of words, where there are some already
some_length : (words : List (List ℕ)) (n : ℕ) (set s : List (ℕ × ℕ)) (rest : List (List ℕ)) → with_ranges n set words ≡ Ok (s, rest) → 0 < length set → length set ≤ n → n ≤ 64 → (0 < length s) × (length s ≤ 64)
some_length [] n set s rest e some most small =
    let same : (let p : List (ℕ × ℕ) × List (List ℕ) = (set, []) in p) ≡ (s, rest) = cc in
    let len : length set ≡ length s = ap (λ (p : List (ℕ × ℕ) × List (List ℕ)). length p.0) same in
    (omega arith, omega arith)
some_length (w ∷ words) n set s rest e some most small = elim (nat_lt n 64) as (λ b. nat_lt n 64 ≡ b → cond b (with_range set w >>= (λ more. with_ranges (n + 1) more words)) (Err TooLong) ≡ Ok (s, rest) → (0 < length s) × (length s ≤ 64)) [
  | true ↦ λ t f. elim (range_of w) as (λ r. ((r >>= (λ r. Ok (joined set r.0 r.1))) >>= (λ more. with_ranges (n + 1) more words)) ≡ Ok (s, rest) → (0 < length s) × (length s ≤ 64)) [
    | Ok r ↦ λ g.
        let lengths = length-joined set r.0 r.1 in
        let below : n < 64 = ltb-true n 64 t in
        some_length words (n + 1) (joined set r.0 r.1) s rest g lengths.0 (omega (arith, lengths.1)) (omega arith)
    | Err cause ↦ λ g. absurd (cc)
  ] f
  | false ↦ λ t f. absurd (cc)
] refl e

-- the set of a body's words has 1 to 64 ranges
pub body_length : (words : List (List ℕ)) (s : List (ℕ × ℕ)) (rest : List (List ℕ)) → is_empty words ≡ false → with_ranges 0 [] words ≡ Ok (s, rest) → (0 < length s) × (length s ≤ 64)
body_length [] s rest e f = absurd (cc)
body_length (w ∷ words) s rest e f = elim (range_of w) as (λ r. ((r >>= (λ r. Ok (joined [] r.0 r.1))) >>= (λ more. with_ranges 1 more words)) ≡ Ok (s, rest) → (0 < length s) × (length s ≤ 64)) [
  | Ok r ↦ λ g. some_length words 1 (joined [] r.0 r.1) s rest g (omega arith) (omega arith) (omega arith)
  | Err cause ↦ λ g. absurd (cc)
] f

pub body_ranges : (words rest : List (List ℕ)) (r : Result (List (ℕ × ℕ)) PartError) → is_empty words ≡ false → Reads rest r (with_ranges 0 [] words) → IfOk r (λ s. is_range_set s ≡ true) → IfOk r (λ s. has_body_ranges s ≡ true)
body_ranges words rest (Ok s) e reads set =
    let lengths = body_length words s rest e reads in
    and_from _ _ set (and_from _ _ (le-leb 1 (length s) (omega (arith, lengths.0))) (le-leb (length s) 64 lengths.1))
body_ranges words rest (Err e) f reads set = tt
