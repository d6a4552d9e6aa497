-- Laws of regions in their order: `by_start` rises and is stable, and `apart` goes on from one pair of
-- neighbours to the next.
use Rattle.std.proofs.Common.{◌≡◌, ℕ, ◌+◌, ◌-◌, ◌<◌, ◌≤◌, Bool, true, false, cond, List, [], ◌∷◌, length, get_or, drop, nat_lt, nat_le, None, Ok, Err, refl, sym, ap, ◌∙◌, arith, length-drop, get_or-drop}
use Rattle.std.specs.List.{filter}
use Rattle.std.specs.Ordering.{nat_cmp}
use Rattle.std.specs.List.Sorted.{IsNonDecreasingBy, IsStableByKey}
use Rattle.std.proofs.lemmas.List.{drop-drop}
use Rattle.std.proofs.lemmas.Bool.Decides.{nat_tests}
use Rattle.rvd_elf.specs.declared.segment.Region.{Region}
use Rattle.rvd_elf.specs.declared.refusals.ElfError.TheVariants.{Overlap}
use Rattle.rvd_elf.specs.Segment.{apart, by_start, placed_by_start}
use Rattle.rvd_elf.proofs.StableSort.{alike, RisesFrom, same_sorted, rises_from}

abbrev start_of : Region → ℕ
start_of r = r.start

lower : (m : ℕ) (r : Region) (ss : List Region) → m ≤ r.start → RisesFrom start_of m ss → RisesFrom start_of m (placed_by_start r ss)
lower m r [] le up = (le, tt)
lower m r (s ∷ ss) le up =
    elim (nat_le r.start s.start) as (λ t. nat_le r.start s.start ≡ t → RisesFrom start_of m (cond t (r ∷ s ∷ ss) (s ∷ placed_by_start r ss))) [
      | true ↦ λ p. let h : r.start ≤ s.start = grind (arith, nat_tests) in (le, (h, up.1))
      | false ↦ λ p. let h : s.start ≤ r.start = grind (arith, nat_tests) in (up.0, lower s.start r ss h up.1)
    ] refl

rises : (rs : List Region) → RisesFrom start_of 0 (by_start rs)
rises [] = tt
rises (r ∷ rs) = lower 0 r (by_start rs) (omega arith) (rises rs)

swap_front : (s t : Bool) (x y : Region) (zs : List Region) → (s ≡ true → t ≡ true → ⊥) → cond s (x ∷ cond t (y ∷ zs) zs) (cond t (y ∷ zs) zs) ≡ cond t (y ∷ cond s (x ∷ zs) zs) (cond s (x ∷ zs) zs)
swap_front true true x y zs apart = absurd (apart refl refl)
swap_front true false x y zs apart = refl
swap_front false true x y zs apart = refl
swap_front false false x y zs apart = refl

not_both : (x s r : Region) → s.start < r.start → alike start_of x s ≡ true → alike start_of x r ≡ true → ⊥
not_both x s r lt p q = grind (arith, nat_tests)

moved : (x r : Region) (ss : List Region) → filter (alike start_of x) (placed_by_start r ss) ≡ filter (alike start_of x) (r ∷ ss)
moved x r [] = refl
moved x r (s ∷ ss) =
    elim (nat_le r.start s.start) as (λ t. nat_le r.start s.start ≡ t → filter (alike start_of x) (cond t (r ∷ s ∷ ss) (s ∷ placed_by_start r ss)) ≡ filter (alike start_of x) (r ∷ s ∷ ss)) [
      | true ↦ λ p. refl
      | false ↦ λ p.
          let lt : s.start < r.start = grind (arith, nat_tests) in
          ap (λ (ws : List Region). cond (alike start_of x s) (s ∷ ws) ws) (moved x r ss)
          ∙ swap_front (alike start_of x s) (alike start_of x r) s r (filter (alike start_of x) ss) (not_both x s r lt)
    ] refl

stable : (x : Region) (rs : List Region) → filter (alike start_of x) (by_start rs) ≡ filter (alike start_of x) rs
stable x [] = refl
stable x (r ∷ rs) = moved x r (by_start rs) ∙ ap (λ (ws : List Region). cond (alike start_of x r) (r ∷ ws) ws) (stable x rs)

-- a stable sort by start gives the regions in their order
pub sorted_is : (rs ss : List Region) → IsNonDecreasingBy start_of ss → IsStableByKey start_of nat_cmp rs ss → ss ≡ by_start rs
sorted_is rs ss up same =
    same_sorted start_of 0 0 ss (by_start rs) (rises_from start_of 0 ss (λ d h. omega arith) up) (rises rs) (λ x. same x ∙ sym (stable x rs))

two_apart : (ss : List Region) (d e : Region) → 1 < length ss
    → apart ss ≡ cond (nat_lt (get_or ss 1 e).start ((get_or ss 0 d).start + (get_or ss 0 d).len)) (Err (Overlap (get_or ss 0 d).start (get_or ss 1 e).start)) (apart (drop 1 ss))
two_apart [] d e h = absurd (omega arith)
two_apart (r ∷ []) d e h = absurd (omega arith)
two_apart (r ∷ s ∷ rs) d e h = refl

-- one region is apart from all
pub one_apart : (ss : List Region) → length ss ≤ 1 → apart ss ≡ Ok tt
one_apart [] h = refl
one_apart (r ∷ []) h = refl
one_apart (r ∷ s ∷ rs) h = absurd (omega arith)

-- a region and the one behind it
pub apart_at : (rs : List Region) (i : ℕ) (d e : Region) → 1 ≤ i → i < length rs
    → apart (drop (i - 1) rs) ≡ cond (nat_lt (get_or rs i e).start ((get_or rs (i - 1) d).start + (get_or rs (i - 1) d).len)) (Err (Overlap (get_or rs (i - 1) d).start (get_or rs i e).start)) (apart (drop i rs))
apart_at rs i d e low high =
    let k : ℕ = i - 1 in
    let long : 1 < length (drop (i - 1) rs) = omega (arith, length-drop (i - 1) rs) in
    let first : get_or (drop (i - 1) rs) 0 d ≡ get_or rs (i - 1) d = get_or-drop (i - 1) rs 0 d ∙ ap (λ (j : ℕ). get_or rs j d) (omega arith) in
    let second : get_or (drop (i - 1) rs) 1 e ≡ get_or rs i e = get_or-drop (i - 1) rs 1 e ∙ ap (λ (j : ℕ). get_or rs j e) (omega arith) in
    let rest : drop 1 (drop (i - 1) rs) ≡ drop i rs = drop-drop 1 (i - 1) rs ∙ ap (λ (j : ℕ). drop j rs) (omega arith) in
    two_apart (drop (i - 1) rs) d e long
    ∙ ap (λ (x : Region). cond (nat_lt (get_or (drop (i - 1) rs) 1 e).start (x.start + x.len)) (Err (Overlap x.start (get_or (drop (i - 1) rs) 1 e).start)) (apart (drop 1 (drop (i - 1) rs)))) first
    ∙ ap (λ (y : Region). cond (nat_lt y.start ((get_or rs (i - 1) d).start + (get_or rs (i - 1) d).len)) (Err (Overlap (get_or rs (i - 1) d).start y.start)) (apart (drop 1 (drop (i - 1) rs)))) second
    ∙ ap (λ (ss : List Region). cond (nat_lt (get_or rs i e).start ((get_or rs (i - 1) d).start + (get_or rs (i - 1) d).len)) (Err (Overlap (get_or rs (i - 1) d).start (get_or rs i e).start)) (apart ss)) rest

abbrev zeros : Region
zeros = record { start = 0; len = 0; perm = record { r = false; w = false; x = false }; offset = None }

-- whether the region before i reaches into that at i
abbrev pub reaches_at : List Region → ℕ → Bool
reaches_at rs i = nat_lt (get_or rs i zeros).start ((get_or rs (i - 1) zeros).start + (get_or rs (i - 1) zeros).len)

pub goes_on : (rs : List Region) (i : ℕ) → 1 ≤ i → i < length rs → apart rs ≡ apart (drop (i - 1) rs) → reaches_at rs i ≡ false → apart rs ≡ apart (drop (i + 1 - 1) rs)
goes_on rs i low high so_far not_reached =
    so_far ∙ apart_at rs i zeros zeros low high
    ∙ ap (λ (t : Bool). cond t (Err (Overlap (get_or rs (i - 1) zeros).start (get_or rs i zeros).start)) (apart (drop i rs))) not_reached
    ∙ ap (λ (j : ℕ). apart (drop j rs)) (omega arith)

pub overlaps_at : (rs : List Region) (i : ℕ) → 1 ≤ i → i < length rs → apart rs ≡ apart (drop (i - 1) rs) → reaches_at rs i ≡ true → Err (Overlap (get_or rs (i - 1) zeros).start (get_or rs i zeros).start) ≡ apart rs
overlaps_at rs i low high so_far reached =
    sym (so_far ∙ apart_at rs i zeros zeros low high
    ∙ ap (λ (t : Bool). cond t (Err (Overlap (get_or rs (i - 1) zeros).start (get_or rs i zeros).start)) (apart (drop i rs))) reached)

pub all_apart : (rs : List Region) (i : ℕ) → 1 ≤ i → length rs ≤ i → apart rs ≡ apart (drop (i - 1) rs) → Ok tt ≡ apart rs
all_apart rs i low high so_far = sym (so_far ∙ one_apart (drop (i - 1) rs) (omega (arith, length-drop (i - 1) rs)))
