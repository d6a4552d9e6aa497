-- The ranges of the bytes of instructions. Use `spans_have` for which addresses they have, `spans_member` for that they have
-- the addresses of members, and `spans_ranges` for that they are a set of ranges where the members rise by steps of 4.
use Rattle.std.proofs.Common.{◌≡◌, ℕ, ◌+◌, ◌≤◌, ◌^◌, Bool, true, ◌&&◌, ◌||◌, List, [], ◌∷◌, refl, ap, ◌∙◌, arith}
use Rattle.std.specs.Prelude.{nat_le, ◌==◌}
use Rattle.std.specs.List.{list_any}
use Rattle.std.proofs.lemmas.Bool.{and_from, cond_both, eqb-true, eqb-false, le-leb, or_right}
use Rattle.std.proofs.lemmas.Bool.Decides.{nat_tests}
use Rattle.rvd_fact.specs.Ranges.{has_address, AreRangesFrom}
use Rattle.rvd_ask.specs.Reach.{has, spans, with_word}
use Rattle.rvd_ask.proofs.Growing.{any_from}
use Rattle.rvd_an_funcs.proofs.Rising.{Rises}
use Rattle.rvd_an_funcs.proofs.Lists.{has_first}

-- whether an address is one of the four bytes of a word
abbrev pub in_word : ℕ → ℕ → Bool
in_word a z = nat_le z a && nat_le a (z + 3)

-- the first range isn't empty
abbrev FirstIsRange : List (ℕ × ℕ) → Type 0
FirstIsRange [] = Unit {0}
FirstIsRange (r ∷ rs) = r.0 ≤ r.1

first_with : (z : ℕ) (rs : List (ℕ × ℕ)) → FirstIsRange rs → FirstIsRange (with_word z rs)
first_with z [] h = omega arith
first_with z (r ∷ rs) h =
    cond_both (r.0 == z + 4) ((z, r.1) ∷ rs) ((z, z + 3) ∷ r ∷ rs) FirstIsRange
    (λ touches. omega (arith, h, eqb-true r.0 (z + 4) touches))
    (λ apart. omega arith)

first_spans : (zs : List ℕ) → FirstIsRange (spans zs)
first_spans [] = tt
first_spans (z ∷ zs) = first_with z (spans zs) (first_spans zs)

joined : (a z low high : ℕ) (b : Bool) → low ≡ z + 4 → low ≤ high → ((nat_le z a && nat_le a high) || b) ≡ ((nat_le z a && nat_le a (z + 3)) || ((nat_le low a && nat_le a high) || b))
joined a z low high b touches h = grind (arith, nat_tests)

have_with : (a z : ℕ) (rs : List (ℕ × ℕ)) → FirstIsRange rs → has_address a (with_word z rs) ≡ (in_word a z || has_address a rs)
have_with a z [] h = refl
have_with a z (r ∷ rs) h =
    cond_both (r.0 == z + 4) ((z, r.1) ∷ rs) ((z, z + 3) ∷ r ∷ rs) (λ (ss : List (ℕ × ℕ)). has_address a ss ≡ (in_word a z || has_address a (r ∷ rs)))
    (λ touches. joined a z r.0 r.1 (has_address a rs) (eqb-true r.0 (z + 4) touches) h)
    (λ apart. refl)

-- they have just the bytes of the words
pub spans_have : (a : ℕ) (zs : List ℕ) → has_address a (spans zs) ≡ list_any (in_word a) zs
spans_have a [] = refl
spans_have a (z ∷ zs) = have_with a z (spans zs) (first_spans zs) ∙ ap (λ b. in_word a z || b) (spans_have a zs)

pub spans_member : (z : ℕ) (zs : List ℕ) → has z zs ≡ true → has_address z (spans zs) ≡ true
spans_member z zs h = spans_have z zs ∙ any_from (in_word z) zs z h (and_from (nat_le z z) _ (le-leb z z (omega arith)) (le-leb z (z + 3) (omega arith)))

-- a word before ranges that begin behind it
ranges_with : (low z : ℕ) (rs : List (ℕ × ℕ)) → low ≤ z → z + 4 ≤ 2 ^ 32 → AreRangesFrom (z + 4) rs → AreRangesFrom low (with_word z rs)
ranges_with low z [] from end t = (from, omega arith, omega arith, tt)
ranges_with low z (r ∷ rs) from end t =
    cond_both (r.0 == z + 4) ((z, r.1) ∷ rs) ((z, z + 3) ∷ r ∷ rs) (AreRangesFrom low)
    (λ touches. (from, omega arith, t.2, t.3))
    (λ apart.
    let gap : r.0 ≡ z + 4 → ⊥ = eqb-false r.0 (z + 4) apart in
    (from, omega arith, omega arith, (omega (arith, gap), t.1, t.2, t.3)))

-- they are a set of ranges
pub spans_ranges : (low : ℕ) (zs : List ℕ) → Rises 4 low zs → ((z : ℕ) → has z zs ≡ true → z + 4 ≤ 2 ^ 32) → AreRangesFrom low (spans zs)
spans_ranges low [] r ends = tt
spans_ranges low (z ∷ zs) r ends = ranges_with low z (spans zs) r.0 (ends z (has_first z zs)) (spans_ranges (z + 4) zs r.1 (λ y h. ends y (or_right (z == y) _ h)))
