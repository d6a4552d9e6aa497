-- What a test tells where it stands for a fact. Use `refused` where one failed that the whole needs, and `negated` for a test
-- that is turned round.
use Rattle.std.proofs.Common.{◌≡◌, ◌↔◌, Bool, true, false, not, refl, sym, ◌∙◌}
use Rattle.std.specs.Prelude.{IsTrue}
use Rattle.std.proofs.lemmas.Bool.{false≢true}

pub refused : {P Q : Type 0} → (r : Bool) → (IsTrue r ↔ P) → r ≡ false → (Q → P) → IsTrue false ↔ Q
refused r same is to = (λ t. absurd (false≢true t), λ q. absurd (false≢true (sym is ∙ same.1 (to q))))

pub negated : {C : Type 0} → (r : Bool) → (IsTrue r ↔ C) → IsTrue (not r) ↔ (C → ⊥)
negated true same = (λ t. absurd (false≢true t), λ none. absurd (none (same.0 refl)))
negated false same = (λ t. λ c. false≢true (same.1 c), λ none. refl)
