use Rattle.std.proofs.Common.{◌≡◌, ◌++◌, take}
use Rattle.rvd_notation.specs.Words.{more_ranges}
use Rattle.rvd_notation.proofs.keys.push_more_ranges.Given as goal

-- the ranges so far
abbrev pub invariant-loop-range : goal.invariant-loop-range
invariant-loop-range l = l.out.items ≡ l.fn.out.items ++ more_ranges (take l.range-index l.ranges)
