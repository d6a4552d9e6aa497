-- The reach has just the ends of walks: use `reached` and `member`, with `AreCodes` of the program's instructions.
use Rattle.std.proofs.Common.{◌≡◌, ℕ, zero, suc, ◌<◌, ◌≤◌, Bool, true, ◌||◌, List, length, refl, sym, ap, ◌∙◌, subst, inl, inr, ◌⊎◌, arith}
use Rattle.std.specs.Prelude.{filter, ◌==◌}
use Rattle.std.specs.List.{list_any}
use Rattle.std.proofs.lemmas.Bool.{and_parts, or_cases, or_left, or_right, eqb-true, eq-eqb, cases_lt}
use Rattle.rvd_fact.specs.Program.{Program}
use Rattle.rvd_fact.specs.Memory.{has_instruction}
use Rattle.rvd_ask.specs.Reach.{follows, may_join, ways, Walk, IsReached, has, code_addresses, grown, grown_times, reach}
use Rattle.rvd_ask.proofs.Growing.{Wider, filter_no_longer, filter_same, long_or_fixed, has-filter, in_filter, any_has, any_from}

-- the list of instructions has just the addresses with an instruction
abbrev pub AreCodes : Program → Type 0
AreCodes S = (z : ℕ) → ((has z (code_addresses S) ≡ true) → (has_instruction S z ≡ true)) × ((has_instruction S z ≡ true) → (has z (code_addresses S) ≡ true))

module _ (S : Program) (e : ℕ) (codes : AreCodes S) where
  members : ℕ → List ℕ
  members n = grown_times S e n

  test : ℕ → ℕ → Bool
  test zero z = z == e
  test (suc n) z = has z (grown_times S e n) || list_any (λ y. follows S y z) (grown_times S e n)

  filtered : (n : ℕ) → grown_times S e n ≡ filter (test n) (code_addresses S)
  unfolding test
  filtered zero = refl
  filtered (suc n) = refl

  wider : (n : ℕ) → Wider (test n) (test (suc n)) (code_addresses S)
  unfolding test
  wider n z h is = or_left (has z (grown_times S e n)) _ (ap (has z) (filtered n) ∙ in_filter (test n) z (code_addresses S) h is)

  step : (n : ℕ) → (length (grown_times S e n) < length (grown_times S e (suc n))) ⊎ (grown_times S e (suc n) ≡ grown_times S e n)
  step n = elim (cases_lt (length (grown_times S e n)) (length (grown_times S e (suc n)))) [
    | inl more ↦ inl more
    | inr no_more ↦ inr (filtered (suc n) ∙ filter_same (test n) (test (suc n)) (code_addresses S) (wider n) (subst (λ (xs : List ℕ). length (filter (test (suc n)) (code_addresses S)) ≤ length xs) (filtered n) (subst (λ (xs : List ℕ). length xs ≤ length (grown_times S e n)) (filtered (suc n)) no_more)) ∙ sym (filtered n))
  ]

  -- the reach takes in no more
  fixed : grown S (code_addresses S) (reach S e) ≡ reach S e
  unfolding reach
  fixed =
      let all = length (code_addresses S) in
      elim (long_or_fixed (grown S (code_addresses S)) (filter (λ z. z == e) (code_addresses S)) step all) [
        | inl long ↦ elim (step all) [
          | inl more ↦ absurd (omega (arith, subst (λ (xs : List ℕ). length xs ≤ length (code_addresses S)) (sym (filtered (suc all))) (filter_no_longer (test (suc all)) (code_addresses S))))
          | inr same ↦ same
        ]
        | inr same ↦ same
      ]

  -- each member is the end of a walk
  sound_at : (n z : ℕ) → has z (grown_times S e n) ≡ true → IsReached S e z
  sound_at zero z h =
      let in_both = has-filter (λ z. z == e) z (code_addresses S) h in
      let is : z ≡ e = eqb-true z e in_both.1 in
      (0, (is, ap (has_instruction S) (sym is) ∙ (codes z).0 in_both.0))
  sound_at (suc n) z h =
      let in_both = has-filter (λ z. has z (grown_times S e n) || list_any (λ y. follows S y z) (grown_times S e n)) z (code_addresses S) h in
      elim (or_cases (has z (grown_times S e n)) _ in_both.1) [
        | inl old ↦ sound_at n z old
        | inr new ↦
            let from : (y : ℕ) × (has y (grown_times S e n) ≡ true) × (follows S y z ≡ true) = any_has (λ y. follows S y z) (grown_times S e n) new in
            let walk : IsReached S e from.0 = sound_at n from.0 from.1 in
            (suc walk.0, (from.0, walk.1, from.2))
      ]

  kept : (n z : ℕ) → has z (grown_times S e n) ≡ true → has z (grown_times S e (suc n)) ≡ true
  kept n z h =
      let in_both = has-filter (test n) z (code_addresses S) (ap (has z) (sym (filtered n)) ∙ h) in
      in_filter (λ z. has z (grown_times S e n) || list_any (λ y. follows S y z) (grown_times S e n)) z (code_addresses S) in_both.0 (or_left (has z (grown_times S e n)) _ h)

  kept_from_start : (n z : ℕ) → has z (grown_times S e 0) ≡ true → has z (grown_times S e n) ≡ true
  kept_from_start zero z h = h
  kept_from_start (suc n) z h = kept n z (kept_from_start n z h)

  -- each end of a walk is a member
  complete_at : (n z : ℕ) → Walk S e z n → has z (reach S e) ≡ true
  unfolding reach
  complete_at zero z w = kept_from_start (length (code_addresses S)) z (in_filter (λ z. z == e) z (code_addresses S) ((codes z).1 (ap (has_instruction S) w.0 ∙ w.1)) (eq-eqb z e w.0))
  complete_at (suc n) z w =
      let before : has w.0 (reach S e) ≡ true = complete_at n w.0 w.1 in
      let joined : may_join S z ≡ true = (and_parts (has z (ways S w.0)) (may_join S z) w.2).1 in
      ap (has z) (sym fixed) ∙ in_filter (λ z. has z (reach S e) || list_any (λ y. follows S y z) (reach S e)) z (code_addresses S) ((codes z).1 (and_parts (has_instruction S z) _ joined).0) (or_right (has z (reach S e)) _ (any_from (λ y. follows S y z) (reach S e) w.0 before w.2))

  pub reached : (z : ℕ) → has z (reach S e) ≡ true → IsReached S e z
  unfolding reach
  reached z h = sound_at (length (code_addresses S)) z h

  pub member : (z : ℕ) → IsReached S e z → has z (reach S e) ≡ true
  member z r = complete_at r.0 z r.1
