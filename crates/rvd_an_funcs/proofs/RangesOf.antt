-- The bytes of instructions as a set that is made word by word. Use `words_all` for the whole, and
-- `same_ranges-pointwise` for the test that two sets are one.
use Rattle.std.proofs.Common.{◌≡◌, ℕ, Bool, true, false, ◌&&◌, List, [], ◌∷◌, refl, sym, ap, ◌∙◌}
use Rattle.std.specs.Prelude.{◌==◌}
use Rattle.std.specs.List.{list_any}
use Rattle.std.specs.Cmp.Lexicographic.{pointwise}
use Rattle.rvd_fact.specs.Ranges.{AreRanges, HasJust}
use Rattle.rvd_fact.proofs.RangeEquality.{same_list}
use Rattle.rvd_ask.specs.Body.{same_ranges}
use Rattle.rvd_ask.specs.Reach.{spans}
use Rattle.rvd_an_funcs.proofs.Spans.{in_word, spans_have}

-- a set has just the bytes of the words
abbrev pub HasWords : List (ℕ × ℕ) → List ℕ → Type 0
HasWords rs zs = HasJust rs (λ a. list_any (in_word a) zs)

-- with all words, it is the set of their bytes
pub words_all : (rs : List (ℕ × ℕ)) (zs : List ℕ) → AreRanges (spans zs) → HasWords rs zs → rs ≡ spans zs
words_all rs zs ranges h = same_list 0 rs (spans zs) h.ranges ranges (λ a small. h.addresses a ∙ sym (spans_have a zs))

group : (a b c d : Bool) → c ≡ d → ((a && b) && c) ≡ (a && (b && d))
group true b c d h = ap (λ x. b && x) h
group false b c d h = refl

pub same_ranges-pointwise : (rs ss : List (ℕ × ℕ)) → pointwise (λ (x y : ℕ × ℕ). x.0 == y.0 && x.1 == y.1) rs ss ≡ same_ranges rs ss
same_ranges-pointwise [] [] = refl
same_ranges-pointwise [] (s ∷ ss) = refl
same_ranges-pointwise (r ∷ rs) [] = refl
same_ranges-pointwise (r ∷ rs) (s ∷ ss) = group (r.0 == s.0) (r.1 == s.1) _ _ (same_ranges-pointwise rs ss)
