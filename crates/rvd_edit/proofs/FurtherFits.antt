-- What analysis made and goes by an analyst's word fits: `further_fits` for one key, `further_refs-fits` for the slots of an
-- address. They are read on a program S, and go on another one, T, that has the same cells at their keys.
use Rattle.std.proofs.Common.{◌≡◌, ℕ, zero, suc, ◌<◌, List, [], ◌∷◌, None, refl, ap, ◌∙◌, arith}
use Rattle.std.proofs.lemmas.Bool.{cond_both}
use Rattle.rvd_fact.specs.declared.keys.Key.{Key}
use Rattle.rvd_fact.specs.declared.keys.Kind.TheVariants as kind
use Rattle.rvd_fact.specs.declared.cells.Change.{Change}
use Rattle.rvd_fact.specs.Order.{rank}
use Rattle.rvd_fact.specs.Program.{Program, cell_at, applied_all}
use Rattle.rvd_fact.specs.Valid.{IsValid, Fits}
use Rattle.rvd_fact.proofs.Validity.{cell_at_other}
use Rattle.rvd_program.proofs.Applying.{applied_all-append, fits-append, fits_one, valid_all}
use Rattle.rvd_edit.specs.Slots.{slot_key}
use Rattle.rvd_edit.specs.Changes.{dropped, further, further_refs, is_found}
use Rattle.rvd_edit.proofs.WithoutLength.{valid_without_length}

module _ (S : Program) where
  dropped_fits : (T : Program) (k : Key) → IsValid T → (rank k.kind ≡ 0 → ⊥) → cell_at T k ≡ cell_at S k → Fits T (dropped S k ∷ [])
  dropped_fits T k valid no_block same = fits_one T (dropped S k) same (valid_without_length T k None valid no_block refl refl refl)

  pub further_fits : (T : Program) (k : Key) → IsValid T → (rank k.kind ≡ 0 → ⊥) → cell_at T k ≡ cell_at S k → Fits T (further S k)
  further_fits T k valid no_block same = cond_both (is_found (cell_at S k)) (dropped S k ∷ []) [] (Fits T) (λ _. dropped_fits T k valid no_block same) (λ _. tt)

  -- cells at other keys stay
  pub further_others : (T : Program) (k q : Key) → (q ≡ k → ⊥) → cell_at (applied_all T (further S k)) q ≡ cell_at T q
  further_others T k q other = cond_both (is_found (cell_at S k)) (dropped S k ∷ []) [] (λ (cs : List Change). cell_at (applied_all T cs) q ≡ cell_at T q) (λ _. cell_at_other T k None q other) (λ _. refl)

  refs_next : (T : Program) (a n : ℕ) → applied_all T (further_refs S a (suc n)) ≡ applied_all (applied_all T (further_refs S a n)) (further S (slot_key kind.Ref a n))
  unfolding further_refs
  refs_next T a n = applied_all-append T (further_refs S a n) (further S (slot_key kind.Ref a n))

  none_applied : (T : Program) (a : ℕ) → applied_all T (further_refs S a zero) ≡ T
  unfolding further_refs
  none_applied T a = refl

  pub further_refs-others : (T : Program) (a n : ℕ) (q : Key) → ((slot : ℕ) → slot < n → q ≡ slot_key kind.Ref a slot → ⊥) → cell_at (applied_all T (further_refs S a n)) q ≡ cell_at T q
  further_refs-others T a zero q other = ap (λ (U : Program). cell_at U q) (none_applied T a)
  further_refs-others T a (suc n) q other =
      ap (λ (U : Program). cell_at U q) (refs_next T a n)
      ∙ further_others (applied_all T (further_refs S a n)) (slot_key kind.Ref a n) q (other n (omega arith))
      ∙ further_refs-others T a n q (λ slot low. other slot (omega (arith, low)))

  -- a slot above is another key
  above : (a n slot : ℕ) → slot < n → slot_key kind.Ref a n ≡ slot_key kind.Ref a slot → ⊥
  above a n slot low same = let e : n ≡ slot = ap (λ (k : Key). k.sub) same in omega (arith, low, e)

  no_block_ref : rank kind.Ref ≡ 0 → ⊥
  no_block_ref e = omega (arith, e)

  pub further_refs-fits : (T : Program) (a n : ℕ) → IsValid T → ((slot : ℕ) → cell_at T (slot_key kind.Ref a slot) ≡ cell_at S (slot_key kind.Ref a slot)) → Fits T (further_refs S a n)
  unfolding further_refs
  further_refs-fits T a zero valid same = tt
  further_refs-fits T a (suc n) valid same =
      let before = further_refs-fits T a n valid same in
      fits-append T (further_refs S a n) (further S (slot_key kind.Ref a n)) before
      (further_fits (applied_all T (further_refs S a n)) (slot_key kind.Ref a n) (valid_all T (further_refs S a n) valid before) no_block_ref (further_refs-others T a n (slot_key kind.Ref a n) (above a n) ∙ same n))
