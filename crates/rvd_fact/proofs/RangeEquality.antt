-- A set has one list of ranges. Use `only_list` or `same_sets` to get an equation of lists from their
-- addresses.
use Rattle.std.proofs.Common.{◌≡◌, ℕ, ◌+◌, ◌^◌, ◌<◌, Bool, true, false, ◌&&◌, ◌||◌, List, [], ◌∷◌, refl, sym, ap, ◌∙◌, subst, inl, inr, arith}
use Rattle.std.specs.Prelude.{nat_le}
use Rattle.std.proofs.lemmas.Bool.{cases_lt, cases_order, lt-leb, le-leb, or_from, or_left, and_right, false≢true}
use Rattle.rvd_fact.specs.Ranges.{AreRangesFrom, AreRanges, in_range, has_address, HasJust, IsOnlyList}
use Rattle.rvd_fact.proofs.RangeLists.{none_below}

-- the same addresses, the same list
pub heads_start : (low : ℕ) (r s : ℕ × ℕ) (rs ss : List (ℕ × ℕ)) → AreRangesFrom low (r ∷ rs) → AreRangesFrom low (s ∷ ss) → ((a : ℕ) → a < 2 ^ 32 → has_address a (r ∷ rs) ≡ has_address a (s ∷ ss)) → r.0 < s.0 → ⊥
heads_start low r s rs ss t u same lower =
    let own : has_address r.0 (r ∷ rs) ≡ true = or_left (in_range r.0 r) _ (ap (λ b. b && nat_le r.0 r.1) (le-leb r.0 r.0 (omega arith)) ∙ le-leb r.0 r.1 t.1) in
    let none : has_address r.0 (s ∷ ss) ≡ false = none_below s.0 r.0 (s ∷ ss) lower (omega arith, u.1, u.2, u.3) in
    false≢true (sym none ∙ sym (same r.0 (omega (arith, t.1, t.2))) ∙ own)

heads_end : (low : ℕ) (r s : ℕ × ℕ) (rs ss : List (ℕ × ℕ)) → AreRangesFrom low (r ∷ rs) → AreRangesFrom low (s ∷ ss) → ((a : ℕ) → a < 2 ^ 32 → has_address a (r ∷ rs) ≡ has_address a (s ∷ ss)) → r.0 ≡ s.0 → r.1 < s.1 → ⊥
heads_end low r s rs ss t u same start lower =
    let next : has_address (r.1 + 1) (s ∷ ss) ≡ true = or_left (in_range (r.1 + 1) s) _ (ap (λ b. b && nat_le (r.1 + 1) s.1) (le-leb s.0 (r.1 + 1) (omega (arith, t.1))) ∙ le-leb (r.1 + 1) s.1 (omega arith)) in
    let none : has_address (r.1 + 1) (r ∷ rs) ≡ false = or_from (in_range (r.1 + 1) r) _ (and_right (nat_le r.0 (r.1 + 1)) _ (lt-leb (r.1 + 1) r.1 (omega arith))) (none_below (r.1 + 2) (r.1 + 1) rs (omega arith) t.3) in
    false≢true (sym none ∙ same (r.1 + 1) (omega (arith, u.2)) ∙ next)

-- an address above a range is in none but the later ones
behind : (a : ℕ) (r : ℕ × ℕ) (rs : List (ℕ × ℕ)) → r.1 < a → has_address a (r ∷ rs) ≡ has_address a rs
behind a r rs h = ap (λ b. b || has_address a rs) (and_right (nat_le r.0 a) _ (lt-leb a r.1 h))

later_same : (low : ℕ) (r s : ℕ × ℕ) (rs ss : List (ℕ × ℕ)) → AreRangesFrom low (r ∷ rs) → AreRangesFrom low (s ∷ ss) → ((a : ℕ) → a < 2 ^ 32 → has_address a (r ∷ rs) ≡ has_address a (s ∷ ss)) → r.1 ≡ s.1 → (a : ℕ) → a < 2 ^ 32 → has_address a rs ≡ has_address a ss
later_same low r s rs ss t u same end a small = elim (cases_lt r.1 a) [
  | inl above ↦ sym (behind a r rs above) ∙ same a small ∙ behind a s ss (omega arith)
  | inr low ↦ none_below (r.1 + 2) a rs (omega arith) t.3 ∙ sym (none_below (s.1 + 2) a ss (omega arith) u.3)
]

starts_alike : (low : ℕ) (r s : ℕ × ℕ) (rs ss : List (ℕ × ℕ)) → AreRangesFrom low (r ∷ rs) → AreRangesFrom low (s ∷ ss) → ((a : ℕ) → a < 2 ^ 32 → has_address a (r ∷ rs) ≡ has_address a (s ∷ ss)) → r.0 ≡ s.0
starts_alike low r s rs ss t u same = elim (cases_order r.0 s.0) [
  | inl alike ↦ alike
  | inr apart ↦ elim apart [
    | inl below ↦ absurd (heads_start low r s rs ss t u same below)
    | inr above ↦ absurd (heads_start low s r ss rs u t (λ a h. sym (same a h)) above)
  ]
]

ends_alike : (low : ℕ) (r s : ℕ × ℕ) (rs ss : List (ℕ × ℕ)) → AreRangesFrom low (r ∷ rs) → AreRangesFrom low (s ∷ ss) → ((a : ℕ) → a < 2 ^ 32 → has_address a (r ∷ rs) ≡ has_address a (s ∷ ss)) → r.1 ≡ s.1
ends_alike low r s rs ss t u same =
    let start : r.0 ≡ s.0 = starts_alike low r s rs ss t u same in
    elim (cases_order r.1 s.1) [
      | inl alike ↦ alike
      | inr apart ↦ elim apart [
        | inl below ↦ absurd (heads_end low r s rs ss t u same start below)
        | inr above ↦ absurd (heads_end low s r ss rs u t (λ a h. sym (same a h)) (sym start) above)
      ]
    ]

not_empty : (low : ℕ) (r : ℕ × ℕ) (rs : List (ℕ × ℕ)) → AreRangesFrom low (r ∷ rs) → ((a : ℕ) → a < 2 ^ 32 → has_address a (r ∷ rs) ≡ false) → ⊥
not_empty low r rs t none =
    let own : has_address r.0 (r ∷ rs) ≡ true = or_left (in_range r.0 r) _ (ap (λ b. b && nat_le r.0 r.1) (le-leb r.0 r.0 (omega arith)) ∙ le-leb r.0 r.1 t.1) in
    false≢true (sym (none r.0 (omega (arith, t.1, t.2))) ∙ own)

pub same_list : (low : ℕ) (rs ss : List (ℕ × ℕ)) → AreRangesFrom low rs → AreRangesFrom low ss → ((a : ℕ) → a < 2 ^ 32 → has_address a rs ≡ has_address a ss) → rs ≡ ss
same_list low [] [] t u same = refl
same_list low [] (s ∷ ss) t u same = absurd (not_empty low s ss u (λ a h. sym (same a h)))
same_list low (r ∷ rs) [] t u same = absurd (not_empty low r rs t same)
same_list low (r ∷ rs) (s ∷ ss) t u same =
    let start : r.0 ≡ s.0 = starts_alike low r s rs ss t u same in
    let end : r.1 ≡ s.1 = ends_alike low r s rs ss t u same in
    let tail : rs ≡ ss = same_list (r.1 + 2) rs ss t.3 (subst (λ n. AreRangesFrom (n + 2) ss) (sym end) u.3) (later_same low r s rs ss t u same end) in
    λ i. (start i, end i) ∷ tail i

pub only_list : (rs : List (ℕ × ℕ)) → AreRanges rs → IsOnlyList rs
only_list rs t ss u same = same_list 0 ss rs u t same

-- sets with the same addresses are one
pub same_sets : (rs ss : List (ℕ × ℕ)) (p : ℕ → Bool) → HasJust rs p → HasJust ss p → rs ≡ ss
same_sets rs ss p r s = same_list 0 rs ss r.ranges s.ranges (λ a _. r.addresses a ∙ sym (s.addresses a))
