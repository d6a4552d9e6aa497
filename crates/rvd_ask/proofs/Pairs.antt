-- Two pairs of numbers are told the same exactly where they are: `pair_decides`.
use Rattle.std.proofs.Common.{◌≡◌, ℕ, ◌&&◌, Decides, ap}
use Rattle.std.specs.Prelude.{◌==◌}
use Rattle.std.proofs.lemmas.Bool.{and_parts, and_from, eqb-true, eq-eqb}

pub pair_decides : (a b : ℕ × ℕ) → Decides (a.0 == b.0 && a.1 == b.1) (a ≡ b)
pair_decides a b = (
  λ h. let p = and_parts (a.0 == b.0) (a.1 == b.1) h in λ i. (eqb-true a.0 b.0 p.0 i, eqb-true a.1 b.1 p.1 i),
  λ e. and_from (a.0 == b.0) (a.1 == b.1) (eq-eqb a.0 b.0 (ap (λ (x : ℕ × ℕ). x.0) e)) (eq-eqb a.1 b.1 (ap (λ (x : ℕ × ℕ). x.1) e)),
)
