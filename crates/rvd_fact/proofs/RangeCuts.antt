-- A range less. `without` is the list of ranges that it leaves: use `has-without` for its addresses and
-- `ranges-without` for its order.
use Rattle.std.proofs.Common.{◌≡◌, ℕ, ◌+◌, ◌-◌, ◌^◌, ◌<◌, ◌≤◌, min, max, Bool, true, false, ◌&&◌, ◌||◌, not, List, [], ◌∷◌, ◌++◌, length, take, refl, sym, ap, ◌∙◌, append_assoc, subst, inl, inr, arith}
use Rattle.std.specs.Prelude.{nat_lt, if◌then◌else◌}
use Rattle.std.specs.List.{flat_map}
use Rattle.std.proofs.lemmas.Bool.{cases_Bool, ltb-true, ltb-false, cond-true, cond-false}
use Rattle.std.proofs.lemmas.Bool.Decides.{nat_tests}
use Rattle.std.proofs.lemmas.List.Folds.{list_any-append}
use Rattle.std.proofs.lemmas.List.{take_all}
use Rattle.rvd_fact.specs.Ranges.{AreRangesFrom, AreRanges, in_range, has_address, HasJust}
use Rattle.rvd_fact.proofs.RangeLists.{from_lower}

-- what is left of a range, and of a list, without a range: what begins below it, and what ends above it
abbrev pub front : ℕ → ℕ × ℕ → List (ℕ × ℕ)
front f r = if nat_lt r.0 f then (r.0, min r.1 (f - 1)) ∷ [] else []

abbrev pub back : ℕ → ℕ × ℕ → List (ℕ × ℕ)
back l r = if nat_lt l r.1 then (max r.0 (l + 1), r.1) ∷ [] else []

abbrev pub without : ℕ → ℕ → List (ℕ × ℕ) → List (ℕ × ℕ)
without f l rs = flat_map (λ r. front f r ++ back l r) rs

split_both : (a s e f l : ℕ) → s < f → l < e → f ≤ l → (in_range a (s, min e (f - 1)) || (in_range a (max s (l + 1), e) || false)) ≡ (in_range a (s, e) && not (in_range a (f, l)))
split_both a s e f l sf le fl = grind (arith, nat_tests)

split_front : (a s e f l : ℕ) → s < f → e ≤ l → f ≤ l → (in_range a (s, min e (f - 1)) || false) ≡ (in_range a (s, e) && not (in_range a (f, l)))
split_front a s e f l sf le fl = grind (arith, nat_tests)

split_back : (a s e f l : ℕ) → f ≤ s → l < e → f ≤ l → (in_range a (max s (l + 1), e) || false) ≡ (in_range a (s, e) && not (in_range a (f, l)))
split_back a s e f l sf le fl = grind (arith, nat_tests)

split_none : (a s e f l : ℕ) → f ≤ s → e ≤ l → false ≡ (in_range a (s, e) && not (in_range a (f, l)))
split_none a s e f l sf le = grind (arith, nat_tests)

has-pieces : (a f l : ℕ) (r : ℕ × ℕ) → f ≤ l → has_address a (front f r ++ back l r) ≡ (in_range a r && not (in_range a (f, l)))
has-pieces a f l r fl = elim (cases_Bool (nat_lt r.0 f)) [
  | inl starts ↦ elim (cases_Bool (nat_lt l r.1)) [
    | inl ends ↦ ap (λ xs. has_address a (xs ++ back l r)) (cond-true _ _ _ starts) ∙ ap (λ xs. in_range a (r.0, min r.1 (f - 1)) || has_address a xs) (cond-true _ _ _ ends) ∙ split_both a r.0 r.1 f l (ltb-true _ _ starts) (ltb-true _ _ ends) fl
    | inr stays ↦ ap (λ xs. has_address a (xs ++ back l r)) (cond-true _ _ _ starts) ∙ ap (λ xs. in_range a (r.0, min r.1 (f - 1)) || has_address a xs) (cond-false _ _ _ stays) ∙ split_front a r.0 r.1 f l (ltb-true _ _ starts) (ltb-false _ _ stays) fl
  ]
  | inr inside ↦ elim (cases_Bool (nat_lt l r.1)) [
    | inl ends ↦ ap (λ xs. has_address a (xs ++ back l r)) (cond-false _ _ _ inside) ∙ ap (has_address a) (cond-true _ _ _ ends) ∙ split_back a r.0 r.1 f l (ltb-false _ _ inside) (ltb-true _ _ ends) fl
    | inr stays ↦ ap (λ xs. has_address a (xs ++ back l r)) (cond-false _ _ _ inside) ∙ ap (has_address a) (cond-false _ _ _ stays) ∙ split_none a r.0 r.1 f l (ltb-false _ _ inside) (ltb-false _ _ stays)
  ]
]

pub less_or : (x y n : Bool) → ((x && n) || (y && n)) ≡ ((x || y) && n)
less_or true true n = elim n as (λ b. (b || b) ≡ b) [ true ↦ refl | false ↦ refl ]
less_or true false n = elim n as (λ b. (b || false) ≡ b) [ true ↦ refl | false ↦ refl ]
less_or false y n = refl

pub has-without : (a f l : ℕ) (rs : List (ℕ × ℕ)) → f ≤ l → has_address a (without f l rs) ≡ (has_address a rs && not (in_range a (f, l)))
has-without a f l [] fl = refl
has-without a f l (r ∷ rs) fl =
    list_any-append (in_range a) (front f r ++ back l r) (without f l rs)
    ∙ ap (λ b. b || has_address a (without f l rs)) (has-pieces a f l r fl)
    ∙ ap (λ b. (in_range a r && not (in_range a (f, l))) || b) (has-without a f l rs fl)
    ∙ less_or (in_range a r) (has_address a rs) (not (in_range a (f, l)))

ranges-back : (low l : ℕ) (r : ℕ × ℕ) (rest : List (ℕ × ℕ)) → low ≤ max r.0 (l + 1) → r.1 < 2 ^ 32 → r.0 ≤ r.1 → low ≤ r.1 + 2 → AreRangesFrom (r.1 + 2) rest → AreRangesFrom low (back l r ++ rest)
ranges-back low l r rest h small own past t = elim (cases_Bool (nat_lt l r.1)) [
  | inl ends ↦ subst (λ xs. AreRangesFrom low (xs ++ rest)) (sym (cond-true _ _ _ ends)) (h, omega (arith, ltb-true _ _ ends), small, t)
  | inr stays ↦ subst (λ xs. AreRangesFrom low (xs ++ rest)) (sym (cond-false _ _ _ stays)) (from_lower low (r.1 + 2) rest past t)
]

ranges-pieces : (low f l : ℕ) (r : ℕ × ℕ) (rest : List (ℕ × ℕ)) → f ≤ l → low ≤ r.0 → r.0 ≤ r.1 → r.1 < 2 ^ 32 → AreRangesFrom (r.1 + 2) rest → AreRangesFrom low (front f r ++ (back l r ++ rest))
ranges-pieces low f l r rest fl lr own small t = elim (cases_Bool (nat_lt r.0 f)) [
  | inl starts ↦
      let below : r.0 < f = ltb-true _ _ starts in
      subst (λ xs. AreRangesFrom low (xs ++ (back l r ++ rest))) (sym (cond-true _ _ _ starts))
      (lr, omega arith, omega arith, ranges-back (min r.1 (f - 1) + 2) l r rest (omega arith) small own (omega arith) t)
  | inr inside ↦ subst (λ xs. AreRangesFrom low (xs ++ (back l r ++ rest))) (sym (cond-false _ _ _ inside)) (ranges-back low l r rest (omega arith) small own (omega arith) t)
]

pub ranges-without : (low f l : ℕ) (rs : List (ℕ × ℕ)) → f ≤ l → AreRangesFrom low rs → AreRangesFrom low (without f l rs)
ranges-without low f l [] fl t = tt
ranges-without low f l (r ∷ rs) fl t =
    subst (AreRangesFrom low) (sym (append_assoc (front f r) (back l r) (without f l rs)))
    (ranges-pieces low f l r (without f l rs) fl t.0 t.1 t.2 (ranges-without (r.1 + 2) f l rs fl t.3))

-- what a walk over a whole list leaves
pub without_all : (f l n : ℕ) (rs ss ys : List (ℕ × ℕ)) → f ≤ l → AreRanges rs → ss ≡ rs → ys ≡ without f l (take n ss) → length ss ≤ n → HasJust ys (λ a. has_address a rs && not (in_range a (f, l)))
without_all f l n rs ss ys fl t same is past =
    subst (λ (xs : List (ℕ × ℕ)). HasJust xs (λ a. has_address a rs && not (in_range a (f, l)))) (sym (is ∙ ap (without f l) (take_all n ss past ∙ same)))
    (record { ranges = ranges-without 0 f l rs fl t; addresses = λ a. has-without a f l rs fl })
