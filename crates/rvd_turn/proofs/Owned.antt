-- The entries of one owner, as a log grows by entries of one owner. Use it where a pass gives the value back with new entries.
use Rattle.std.proofs.Common.{◌≡◌, ℕ, ◌≢◌, eqb, cond, List, [], ◌∷◌, ◌++◌, refl, sym, ap, ◌∙◌, append-nil, eq-eqb, ne_eqb}
use Rattle.std.specs.List.{AllByRecursion as Each}
use Rattle.std.proofs.lemmas.List.Elements.{filter-append}
use Rattle.rvd_turn.specs.Story.{owned}

module _ {E : Type 0} (owner : E → ℕ) where
  pub owned-append : (n : ℕ) (xs ys : List E) → owned owner n (xs ++ ys) ≡ owned owner n xs ++ owned owner n ys
  owned-append n xs ys = filter-append (λ e. eqb (owner e) n) xs ys

  -- Entries of n alone.
  pub owned_all : (n : ℕ) (new : List E) → Each (λ e. owner e ≡ n) new → owned owner n new ≡ new
  owned_all n [] h = refl
  owned_all n (e ∷ es) h = ap (λ b. cond b (e ∷ owned owner n es) (owned owner n es)) (eq-eqb (owner e) n h.0) ∙ ap (λ z. e ∷ z) (owned_all n es h.1)

  pub owned_none : (n m : ℕ) (new : List E) → m ≢ n → Each (λ e. owner e ≡ n) new → owned owner m new ≡ []
  owned_none n m [] ne h = refl
  owned_none n m (e ∷ es) ne h = ap (λ b. cond b (e ∷ owned owner m es) (owned owner m es)) (ne_eqb (owner e) m (λ k. ne (sym k ∙ h.0))) ∙ owned_none n m es ne h.1

  -- A log that grew by entries of n has the same entries of another owner.
  pub owned_other : (n m : ℕ) (log new longer : List E) → longer ≡ log ++ new → m ≢ n → Each (λ e. owner e ≡ n) new → owned owner m longer ≡ owned owner m log
  owned_other n m log new longer is ne h = ap (owned owner m) is ∙ owned-append m log new ∙ ap (λ z. owned owner m log ++ z) (owned_none n m new ne h) ∙ append-nil (owned owner m log)

  pub owned_same : (n : ℕ) (log new longer : List E) → longer ≡ log ++ new → Each (λ e. owner e ≡ n) new → owned owner n longer ≡ owned owner n log ++ new
  owned_same n log new longer is h = ap (owned owner n) is ∙ owned-append n log new ∙ ap (λ z. owned owner n log ++ z) (owned_all n new h)

  -- A log in which no owner has an entry has none.
  pub owned_nothing : (log : List E) → ((n : ℕ) → owned owner n log ≡ []) → log ≡ []
  owned_nothing [] h = refl
  owned_nothing (e ∷ es) h = let k = sym (ap (λ b. cond b (e ∷ owned owner (owner e) es) (owned owner (owner e) es)) (eq-eqb (owner e) (owner e) refl)) ∙ h (owner e) in absurd (cc)
