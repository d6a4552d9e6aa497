-- A stable sort by a number has one result. Use `same_sorted` for two lists that both rise and keep the order
-- of elements with one number.
use Rattle.std.proofs.Common.{◌≡◌, ℕ, suc, ◌<◌, ◌≤◌, Bool, true, false, cond, List, [], ◌∷◌, length, get_or, refl, sym, ap, ap₂, ◌∙◌, inl, inr, arith}
use Rattle.std.specs.List.{filter}
use Rattle.std.specs.Ordering.{nat_cmp, is_lt}
use Rattle.std.specs.List.Sorted.{ties, IsNonDecreasingBy}
use Rattle.std.proofs.lemmas.Bool.{cases_lt}
use Rattle.std.proofs.lemmas.Bool.Decides.{nat_tests}

module _ {X : Type 0} (n : X → ℕ) where
  abbrev below : X → X → Bool
  below x y = is_lt (nat_cmp (n x) (n y))

  abbrev pub alike : X → X → Bool
  alike = ties below

  -- the numbers do not fall, from m on
  abbrev pub RisesFrom : ℕ → List X → Type 0
  RisesFrom m [] = Unit {0}
  RisesFrom m (y ∷ ys) = (m ≤ n y) × RisesFrom (n y) ys

  alike_same : (x y : X) → n x ≡ n y → alike x y ≡ true
  alike_same x y h = grind (arith, nat_tests)

  alike_below : (x y : X) → n x < n y → alike x y ≡ false
  alike_below x y h = grind (arith, nat_tests)

  alike_above : (x y : X) → n y < n x → alike x y ≡ false
  alike_above x y h = grind (arith, nat_tests)

  -- nothing above a number is alike
  none_alike : (x : X) (m : ℕ) (ys : List X) → n x < m → RisesFrom m ys → filter (alike x) ys ≡ []
  none_alike x m [] lt up = refl
  none_alike x m (y ∷ ys) lt up =
      let above : n x < n y = omega (arith, up.0) in
      rw (alike_below x y above) (none_alike x (n y) ys above up.1)

  -- the first is no higher than one that is alike to a member
  first_least : (x y : X) (ys : List X) (r : X) (rs : List X) → RisesFrom (n y) ys → filter (alike x) (y ∷ ys) ≡ r ∷ rs → n y ≤ n x
  first_least x y ys r rs up e =
      elim (cases_lt (n x) (n y)) [
        | inl lt ↦
            let rises : RisesFrom (n y) (y ∷ ys) = (omega arith, up) in
            absurd (no_cons r rs (sym (none_alike x (n y) (y ∷ ys) lt rises) ∙ e))
        | inr le ↦ le
      ]
    where
      no_cons : (r : X) (rs : List X) → [] ≡ r ∷ rs → ⊥
      no_cons r rs e = cc

  -- two lists that both rise and have the same elements of each number in the same order are one
  pub same_sorted : (a b : ℕ) (ys zs : List X) → RisesFrom a ys → RisesFrom b zs → ((x : X) → filter (alike x) ys ≡ filter (alike x) zs) → ys ≡ zs
  same_sorted a b [] [] up up' same = refl
  same_sorted a b [] (z ∷ zs) up up' same =
      let e : [] ≡ z ∷ filter (alike z) zs = same z ∙ rw (alike_same z z refl) refl in
      absurd (cc)
  same_sorted a b (y ∷ ys) [] up up' same =
      let e : y ∷ filter (alike y) ys ≡ [] = sym (rw (alike_same y y refl) refl) ∙ same y in
      absurd (cc)
  same_sorted a b (y ∷ ys) (z ∷ zs) up up' same =
      let front_y : filter (alike y) (y ∷ ys) ≡ y ∷ filter (alike y) ys = rw (alike_same y y refl) refl in
      let front_z : filter (alike z) (z ∷ zs) ≡ z ∷ filter (alike z) zs = rw (alike_same z z refl) refl in
      let le : n z ≤ n y = first_least y z zs y (filter (alike y) ys) up'.1 (sym (same y) ∙ front_y) in
      let ge : n y ≤ n z = first_least z y ys z (filter (alike z) zs) up.1 (same z ∙ front_z) in
      let number : n y ≡ n z = omega arith in
      let front : filter (alike y) (z ∷ zs) ≡ z ∷ filter (alike y) zs = rw (alike_same y z number) refl in
      let heads : y ∷ filter (alike y) ys ≡ z ∷ filter (alike y) zs = sym front_y ∙ same y ∙ front in
      let head : y ≡ z = cc in
      let tails : (x : X) → filter (alike x) ys ≡ filter (alike x) zs = λ x. drop_front (alike x y) y z (filter (alike x) ys) (filter (alike x) zs)
      (same x ∙ ap (λ (w : X). cond (alike x w) (z ∷ filter (alike x) zs) (filter (alike x) zs)) (sym head)) in
      ap₂ (λ (w : X) (ws : List X). w ∷ ws) head (same_sorted (n y) (n z) ys zs up.1 up'.1 tails)
    where
      drop_front : (t : Bool) (y z : X) (ys zs : List X) → cond t (y ∷ ys) ys ≡ cond t (z ∷ zs) zs → ys ≡ zs
      drop_front true y z ys zs e = cc
      drop_front false y z ys zs e = e

  pub rises_from : (m : ℕ) (ys : List X) → ((d : X) → 0 < length ys → m ≤ n (get_or ys 0 d)) → IsNonDecreasingBy n ys → RisesFrom m ys
  rises_from m [] low up = tt
  rises_from m (y ∷ ys) low up =
      (low y (omega arith), rises_from (n y) ys (λ d h. up 0 1 d (omega arith) (omega arith)) (λ i j d le lt. up (suc i) (suc j) d (omega arith) (omega arith)))
