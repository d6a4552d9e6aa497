use Rattle.std.proofs.Common.{◌≡◌, take}
use Rattle.rvd_reading.proofs.range_sets.collect.Given as goal

-- the ranges so far
abbrev pub invariant-loop-range : goal.invariant-loop-range
invariant-loop-range l = l.set ≡ take l.range-index l.ranges
