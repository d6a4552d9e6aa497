use Rattle.std.proofs.Common.{ℕ, ◌+◌, ◌≤◌, suc}
use Rattle.rvd_fact.specs.Valid.{unit_span}
use Rattle.rvd_program.proofs.near.unit_start.Given as goal

-- no unit that starts from here on, up to the address, has the byte
abbrev pub invariant-loop-below : goal.invariant-loop-below
invariant-loop-below l = record {
  within : l.below ≤ suc l.at;
  passed : (b : ℕ) → l.below ≤ b → b ≤ l.at → b + unit_span l.cells b ≤ l.at;
}

abbrev pub decreases-loop-below : goal.decreases-loop-below
decreases-loop-below l = l.below
