-- A range more. `joined` is the list of ranges that it leaves: use `has-joined` for its addresses,
-- `ranges-joined` for its order, and `put_has` where the range was put in the place of those that it meets or
-- touches.
use Rattle.std.proofs.Common.{◌≡◌, ℕ, zero, suc, ◌+◌, ◌-◌, ◌^◌, ◌<◌, ◌≤◌, min, max, Bool, true, false, ◌||◌, List, [], ◌∷◌, ◌++◌, length, get_or, take, drop, Result, Ok, Err, OnOk, OnErr, refl, sym, ap, ◌∙◌, subst, inl, inr, arith}
use Rattle.std.specs.Prelude.{nat_lt, if◌then◌else◌}
use Rattle.std.specs.List.{AllWithin}
use Rattle.std.proofs.lemmas.Bool.{cases_Bool, cases_lt, lt-ltb, le-ltb, ltb-true, ltb-false, cond-true, cond-false}
use Rattle.std.proofs.lemmas.Bool.Decides.{nat_tests}
use Rattle.std.proofs.lemmas.List.{get_or_read, drop_more, drop_all}
use Rattle.rvd_fact.specs.Ranges.{AreRangesFrom, AreRanges, in_range, has_address, HasJust}
use Rattle.rvd_fact.proofs.RangeLists.{from_lower, range_at, begins}

-- a range more: it becomes one with those that it meets or touches
abbrev pub joined : List (ℕ × ℕ) → ℕ → ℕ → List (ℕ × ℕ)
joined [] f l = (f, l) ∷ []
joined (r ∷ rs) f l =
    if nat_lt (r.1 + 1) f then r ∷ joined rs f l
    else (if nat_lt (l + 1) r.0 then (f, l) ∷ r ∷ rs else joined rs (min f r.0) (max l r.1))

hull : (a s e f l : ℕ) → s ≤ e → f ≤ l → f ≤ e + 1 → s ≤ l + 1 → in_range a (min f s, max l e) ≡ (in_range a (s, e) || in_range a (f, l))
hull a s e f l se fl fe sl = grind (arith, nat_tests)

last_one : (x y : Bool) → x ≡ y → (x || false) ≡ (false || y)
last_one true y h = h
last_one false y h = h

swap_or : (x y z : Bool) → (x || (y || z)) ≡ ((x || y) || z)
swap_or true y z = refl
swap_or false y z = refl

in_front : (x y : Bool) → (x || y) ≡ (y || x)
in_front true true = refl
in_front true false = refl
in_front false true = refl
in_front false false = refl

pub has-joined : (a low f l : ℕ) (rs : List (ℕ × ℕ)) → f ≤ l → AreRangesFrom low rs → has_address a (joined rs f l) ≡ (has_address a rs || in_range a (f, l))
has-joined a low f l [] fl t = last_one (in_range a (f, l)) _ refl
has-joined a low f l (r ∷ rs) fl t = elim (cases_Bool (nat_lt (r.1 + 1) f)) [
  | inl below ↦
      ap (has_address a) (cond-true _ _ _ below)
      ∙ ap (λ b. in_range a r || b) (has-joined a (r.1 + 2) f l rs fl t.3)
      ∙ swap_or (in_range a r) (has_address a rs) (in_range a (f, l))
  | inr reaches ↦ ap (has_address a) (cond-false _ _ _ reaches) ∙ elim (cases_Bool (nat_lt (l + 1) r.0)) [
    | inl above ↦ ap (has_address a) (cond-true _ _ _ above) ∙ in_front (in_range a (f, l)) (has_address a (r ∷ rs))
    | inr meets ↦
        let fe : f ≤ r.1 + 1 = ltb-false _ _ reaches in
        let sl : r.0 ≤ l + 1 = ltb-false _ _ meets in
        let wider : min f r.0 ≤ max l r.1 = omega arith in
        ap (has_address a) (cond-false _ _ _ meets)
        ∙ has-joined a (r.1 + 2) (min f r.0) (max l r.1) rs wider t.3
        ∙ ap (λ b. has_address a rs || b) (hull a r.0 r.1 f l t.1 fl fe sl)
        ∙ swap_or (has_address a rs) (in_range a r) (in_range a (f, l))
        ∙ ap (λ b. b || in_range a (f, l)) (in_front (has_address a rs) (in_range a r))
  ]
]

pub ranges-joined : (low f l : ℕ) (rs : List (ℕ × ℕ)) → low ≤ f → f ≤ l → l < 2 ^ 32 → AreRangesFrom low rs → AreRangesFrom low (joined rs f l)
ranges-joined low f l [] lf fl small t = (lf, fl, small, tt)
ranges-joined low f l (r ∷ rs) lf fl small t = elim (cases_Bool (nat_lt (r.1 + 1) f)) [
  | inl below ↦
      let apart : r.1 + 2 ≤ f = omega (arith, ltb-true _ _ below) in
      subst (AreRangesFrom low) (sym (cond-true _ _ _ below)) (t.0, t.1, t.2, ranges-joined (r.1 + 2) f l rs apart fl small t.3)
  | inr reaches ↦ subst (AreRangesFrom low) (sym (cond-false _ _ _ reaches)) (elim (cases_Bool (nat_lt (l + 1) r.0)) [
    | inl above ↦
        let apart : l + 2 ≤ r.0 = omega (arith, ltb-true _ _ above) in
        subst (AreRangesFrom low) (sym (cond-true _ _ _ above)) (lf, fl, small, (apart, t.1, t.2, t.3))
    | inr meets ↦
        let from : low ≤ min f r.0 = omega (arith, t.0) in
        let wider : min f r.0 ≤ max l r.1 = omega (arith, t.1) in
        let top : max l r.1 < 2 ^ 32 = omega (arith, t.2) in
        let rest : AreRangesFrom low rs = from_lower low (r.1 + 2) rs (omega (arith, t.0, t.1)) t.3 in
        subst (AreRangesFrom low) (sym (cond-false _ _ _ meets)) (ranges-joined low (min f r.0) (max l r.1) rs from wider top rest)
  ])
]

-- the ranges that end below a range which neither meets nor touches them stay
pub joined_below : (f l i : ℕ) (rs : List (ℕ × ℕ)) → i ≤ length rs → AllWithin (λ r. r.1 < f - 1) rs 0 i → joined rs f l ≡ take i rs ++ joined (drop i rs) f l
joined_below f l zero rs h below = refl
joined_below f l (suc i) [] h below = absurd (omega (arith, h))
joined_below f l (suc i) (r ∷ rs) h below =
    let here : r.1 < f - 1 = below 0 r (omega arith) (omega arith) in
    cond-true _ _ _ (lt-ltb (r.1 + 1) f (omega arith))
    ∙ ap (λ (xs : List (ℕ × ℕ)). r ∷ xs) (joined_below f l i rs (omega (arith, h)) (λ k d _ s. below (suc k) d (omega arith) (omega (arith, s))))

-- and those that begin above it
pub joined_above : (f l : ℕ) (r : ℕ × ℕ) (rs : List (ℕ × ℕ)) → f ≤ l → l + 1 < r.0 → r.0 ≤ r.1 → joined (r ∷ rs) f l ≡ (f, l) ∷ r ∷ rs
joined_above f l r rs fl above own = cond-false _ _ _ (le-ltb (r.1 + 1) f (omega arith)) ∙ cond-true _ _ _ (lt-ltb (l + 1) r.0 above)

-- those that it meets or touches become one with it
pub joined_meets : (f l : ℕ) (r : ℕ × ℕ) (rs : List (ℕ × ℕ)) → f ≤ r.1 + 1 → r.0 ≤ l + 1 → joined (r ∷ rs) f l ≡ joined rs (min f r.0) (max l r.1)
joined_meets f l r rs fe sl = cond-false _ _ _ (le-ltb (r.1 + 1) f fe) ∙ cond-false _ _ _ (le-ltb (l + 1) r.0 sl)

-- one more range is met: what is joined with the rest of the list
pub joined_more : (f l i : ℕ) (rs : List (ℕ × ℕ)) → i < length rs → f ≤ (get_or rs i (0, 0)).1 + 1 → (get_or rs i (0, 0)).0 ≤ l + 1 → joined (drop i rs) f l ≡ joined (drop (i + 1) rs) (min f (get_or rs i (0, 0)).0) (max l (get_or rs i (0, 0)).1)
joined_more f l i rs h fe sl = ap (λ (xs : List (ℕ × ℕ)). joined xs f l) (drop_more rs i (0, 0) h) ∙ joined_meets f l (get_or rs i (0, 0)) (drop (i + 1) rs) fe sl

-- and none more
pub joined_end : (f l i : ℕ) (rs : List (ℕ × ℕ)) → AreRanges rs → f ≤ l → (i < length rs → l + 1 < (get_or rs i (0, 0)).0) → joined (drop i rs) f l ≡ (f, l) ∷ drop i rs
joined_end f l i rs t fl above = elim (cases_lt i (length rs)) [
  | inl more ↦
      ap (λ (xs : List (ℕ × ℕ)). joined xs f l) (drop_more rs i (0, 0) more)
      ∙ joined_above f l (get_or rs i (0, 0)) (drop (i + 1) rs) fl (above more) ((range_at 0 i (0, 0) rs t more).1)
      ∙ ap (λ (xs : List (ℕ × ℕ)). (f, l) ∷ xs) (sym (drop_more rs i (0, 0) more))
  | inr past ↦
      ap (λ (xs : List (ℕ × ℕ)). joined xs f l) (drop_all i rs past)
      ∙ ap (λ (xs : List (ℕ × ℕ)). (f, l) ∷ xs) (sym (drop_all i rs past))
]

-- a list with one range in the place of those that it meets or touches
pub record IsPut (f l i j low high : ℕ) (rs : List (ℕ × ℕ)) : Type 0 where
  pub order : f ≤ l
  pub small : l < 2 ^ 32
  pub bound : i ≤ length rs
  pub below : AllWithin (λ r. r.1 < f - 1) rs 0 i
  pub wide : low ≤ high
  pub met : joined (drop i rs) f l ≡ joined (drop j rs) low high
  pub above : j < length rs → high + 1 < (get_or rs j (0, 0)).0

pub put-is : (f l i j low high : ℕ) (rs : List (ℕ × ℕ)) → AreRanges rs → IsPut f l i j low high rs → joined rs f l ≡ take i rs ++ (low, high) ∷ drop j rs
put-is f l i j low high rs t p =
    joined_below f l i rs p.bound p.below
    ∙ ap (λ (xs : List (ℕ × ℕ)). take i rs ++ xs) (p.met ∙ joined_end low high j rs t p.wide p.above)

pub put_has : (f l i j low high : ℕ) (rs ys : List (ℕ × ℕ)) → AreRanges rs → IsPut f l i j low high rs → ys ≡ take i rs ++ (low, high) ∷ drop j rs → HasJust ys (λ a. has_address a rs || in_range a (f, l))
put_has f l i j low high rs ys t p is =
    subst (λ (xs : List (ℕ × ℕ)). HasJust xs (λ a. has_address a rs || in_range a (f, l))) (put-is f l i j low high rs t p ∙ sym is)
    (record { ranges = ranges-joined 0 f l rs (omega arith) p.order p.small t; addresses = λ a. has-joined a 0 f l rs p.order t })

-- the same of a call that may have been refused, and then left the list as it was
pub put_keeps : {E : Type 0} (r : Result (Unit {0}) E) (f l i j low high : ℕ) (rs ys : List (ℕ × ℕ)) → AreRanges rs → IsPut f l i j low high rs → OnOk r (ys ≡ take i rs ++ (low, high) ∷ drop j rs) → OnErr r (ys ≡ rs) → AreRanges ys
put_keeps (Ok u) f l i j low high rs ys t p ok err = (put_has f l i j low high rs ys t p ok).ranges
put_keeps (Err e) f l i j low high rs ys t p ok err = subst AreRanges (sym err) t

pub put_adds : {E : Type 0} (r : Result (Unit {0}) E) (f l i j low high : ℕ) (rs ys : List (ℕ × ℕ)) → AreRanges rs → IsPut f l i j low high rs → OnOk r (ys ≡ take i rs ++ (low, high) ∷ drop j rs) → OnOk r (HasJust ys (λ a. has_address a rs || in_range a (f, l)))
put_adds (Ok u) f l i j low high rs ys t p ok = put_has f l i j low high rs ys t p ok
put_adds (Err e) f l i j low high rs ys t p ok = tt

pub joined_read : (low high i lo hi : ℕ) (x : ℕ × ℕ) (rs was : List (ℕ × ℕ)) → i < length rs → x ≡ get_or rs i x → low ≤ (get_or rs i (0, 0)).1 + 1 → (get_or rs i (0, 0)).0 ≤ high + 1 → was ≡ joined (drop i rs) low high → lo ≡ min low x.0 → hi ≡ max high x.1 → was ≡ joined (drop (i + 1) rs) lo hi
joined_read low high i lo hi x rs was h is reaches begins met lo_is hi_is =
    met ∙ joined_more low high i rs h reaches begins
    ∙ ap (λ (r : ℕ × ℕ). joined (drop (i + 1) rs) (min low r.0) (max high r.1)) (sym (get_or_read rs i x h is (0, 0)))
    ∙ (λ k. joined (drop (i + 1) rs) (sym lo_is k) (sym hi_is k))
