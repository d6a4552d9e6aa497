-- For callers: which numbers a pass holds after it has met others, one or a list of them in the order of their numbers. Use it for the condition of `close`.
use Rattle.std.proofs.Common.{◌≡◌, ℕ, ◌+◌, ◌<◌, List, [], ◌∷◌, ◌++◌, map, length, inl, refl, sym, ap, ◌∙◌, arith, append_assoc, append-nil}
use mathlib.Core.Logic.{dite}
use native.Mathlib.Decide.{ℕ_discrete}
use Rattle.rvd_turn.specs.Known.{Known, met_by, met_all, Holds}
use Rattle.rvd_turn.proofs.Holders.{held_still, held_other}

module _ {H E : Type 0} where
  pub holds_still : (p q : Known H E) (n : ℕ) → Holds p n → Holds (met_by p q) n
  holds_still p q n h = held_still p.number p.met q.number q.own q.met n h

  pub holds_other : (p q : Known H E) (n : ℕ) → Holds q n → Holds (met_by p q) n
  holds_other p q n h = held_other p.number p.met q.number q.own q.met n h

  -- With the pass of the number k, a pass that holds the numbers below k holds those below k + 1.
  pub holds_more : (p q : Known H E) (k : ℕ) → ((n : ℕ) → n < k → Holds p n) → q.number ≡ k → (n : ℕ) → n < k + 1 → Holds (met_by p q) n
  holds_more p q k below is n h = dite (ℕ_discrete n k)
      (λ e. holds_other p q n (inl (is ∙ sym e)))
      (λ ne. holds_still p q n (below n (omega arith)))

  pub met_all-snoc : (p : Known H E) (qs : List (Known H E)) (q : Known H E) → met_all p (qs ++ q ∷ []) ≡ met_by (met_all p qs) q
  met_all-snoc p [] q = refl
  met_all-snoc p (x ∷ qs) q = met_all-snoc (met_by p x) qs q

  pub met_all-same : (p : Known H E) (qs : List (Known H E)) → ((met_all p qs).turn_id ≡ p.turn_id) × ((met_all p qs).turn ≡ p.turn) × ((met_all p qs).head ≡ p.head)
  met_all-same p [] = (refl, refl, refl)
  met_all-same p (q ∷ qs) = met_all-same (met_by p q) qs

  -- The passes have the numbers from k on, in order, and met none and made none.
  abbrev pub InOrder : ℕ → List (Known H E) → Type 0
  InOrder k [] = Unit {0}
  InOrder k (q ∷ qs) = (q.number ≡ k) × (q.met ≡ []) × (q.made ≡ 0) × InOrder (k + 1) qs

  pub met_all-holds : (p : Known H E) (qs : List (Known H E)) (k : ℕ) → ((n : ℕ) → n < k → Holds p n) → InOrder k qs → (n : ℕ) → n < k + length qs → Holds (met_all p qs) n
  met_all-holds p [] k below h n l = below n (omega arith)
  met_all-holds p (q ∷ qs) k below h n l = met_all-holds (met_by p q) qs (k + 1) (holds_more p q k below h.0) h.3 n (omega arith)

  pub met_all-made : (p : Known H E) (qs : List (Known H E)) (k : ℕ) → InOrder k qs → (met_all p qs).made ≡ p.made
  met_all-made p [] k h = refl
  met_all-made p (q ∷ qs) k h = let none = h.2 in met_all-made (met_by p q) qs (k + 1) h.3 ∙ (let e : p.made + q.made ≡ p.made = omega arith in e)

  pub met_all-met : (p : Known H E) (qs : List (Known H E)) (k : ℕ) → InOrder k qs → (met_all p qs).met ≡ p.met ++ map (λ (q : Known H E). (q.number, q.own)) qs
  met_all-met p [] k h = sym (append-nil p.met)
  met_all-met p (q ∷ qs) k h = met_all-met (met_by p q) qs (k + 1) h.3
      ∙ append_assoc p.met ((q.number, q.own) ∷ q.met) (map (λ (q : Known H E). (q.number, q.own)) qs)
      ∙ ap (λ l. p.met ++ (q.number, q.own) ∷ (l ++ map (λ (q : Known H E). (q.number, q.own)) qs)) h.1
