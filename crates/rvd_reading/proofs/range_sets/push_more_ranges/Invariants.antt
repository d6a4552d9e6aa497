use Rattle.std.proofs.Common.{◌≡◌, ◌-◌, codes}
use Rattle.rvd_reading.specs.Lists.{appended, list_of, range_of}
use Rattle.rvd_reading.proofs.range_sets.push_more_ranges.Given as goal

-- the ranges so far, with those that are left
abbrev pub invariant-loop-taken : goal.invariant-loop-taken
invariant-loop-taken l = appended l.out.items (list_of (l.most - l._taken) (codes ",") range_of l.rest) ≡ appended l.fn.out.items (list_of l.most (codes ",") range_of l.fn.rest)
