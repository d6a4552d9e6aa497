-- Two valid programs have the same reach of an entry, where they agree about the entry and about which steps lead on from the
-- members of the reach in one of them: `same_reach`.
use Rattle.std.proofs.Common.{◌≡◌, ℕ, zero, suc, true, sym, ◌∙◌, arith}
use Rattle.rvd_fact.specs.Program.{Program}
use Rattle.rvd_fact.specs.Memory.{has_instruction}
use Rattle.rvd_fact.specs.Valid.{IsValid}
use Rattle.rvd_ask.specs.Reach.{follows, reach, IsReached, Walk}
use Rattle.rvd_ask.proofs.CodeAddresses.{are_codes}
use Rattle.rvd_ask.proofs.ReachWalks.{member, reached}
use Rattle.rvd_an_funcs.proofs.CodeOrder.{reach_rises}
use Rattle.rvd_an_funcs.proofs.Rising.{same_rising}

-- S and T agree about the entry, and about the steps from a member of the reach in S
pub record SameSteps (S T : Program) (e : ℕ) : Type 0 where
  pub entry : has_instruction T e ≡ has_instruction S e
  pub old : (y z : ℕ) → IsReached S e y → IsReached S e z → follows S y z ≡ true → follows T y z ≡ true
  pub new : (y z : ℕ) → IsReached S e y → follows T y z ≡ true → follows S y z ≡ true

-- a walk in S is one in T
old_walk : (S T : Program) (e : ℕ) → SameSteps S T e → (n z : ℕ) → Walk S e z n → Walk T e z n
old_walk S T e s zero z w = (w.0, s.entry ∙ w.1)
old_walk S T e s (suc n) z w = (w.0, old_walk S T e s n w.0 w.1, s.old w.0 z (n, w.1) (suc n, w) w.2)

-- a walk in T is one in S
new_walk : (S T : Program) (e : ℕ) → SameSteps S T e → (n z : ℕ) → Walk T e z n → Walk S e z n
new_walk S T e s zero z w = (w.0, sym s.entry ∙ w.1)
new_walk S T e s (suc n) z w =
    let before : Walk S e w.0 n = new_walk S T e s n w.0 w.1 in
    (w.0, before, s.new w.0 z (n, before) w.2)

pub same_reach : (S T : Program) (e : ℕ) → IsValid S → IsValid T → SameSteps S T e → reach T e ≡ reach S e
same_reach S T e valid valid_after s =
    same_rising 4 0 (reach T e) (reach S e) (omega arith) (reach_rises T e valid_after) (reach_rises S e valid)
    (λ z h. let w = reached T e (are_codes T valid_after) z h in member S e (are_codes S valid) z (w.0, new_walk S T e s w.0 z w.1))
    (λ z h. let w = reached S e (are_codes S valid) z h in member T e (are_codes T valid_after) z (w.0, old_walk S T e s w.0 z w.1))
