use Rattle.std.proofs.Common.{ℕ, ◌+◌, ◌-◌, ◌<◌, ◌≤◌, suc}
use Rattle.rvd_fact.specs.Valid.{block_span}
use Rattle.rvd_program.proofs.near.block_start.Given as goal

-- no block that starts below has the byte
abbrev pub invariant-loop-from : goal.invariant-loop-from
invariant-loop-from l = (b : ℕ) → b < l.from → b ≤ l.at → b + block_span l.cells b ≤ l.at

abbrev pub decreases-loop-from : goal.decreases-loop-from
decreases-loop-from l = suc l.at - l.from
