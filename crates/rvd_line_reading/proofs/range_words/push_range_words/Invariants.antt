use Rattle.std.proofs.Common.{◌≡◌, ◌-◌}
use Rattle.rvd_reading.specs.Lists.{appended}
use Rattle.rvd_line_reading.specs.Edits.{ranges_to}
use Rattle.rvd_line_reading.proofs.range_words.push_range_words.Given as goal

-- the ranges so far, with those that are left
abbrev pub invariant-loop-taken : goal.invariant-loop-taken
invariant-loop-taken l = appended l.out.items (ranges_to (l.most - l._taken) l.rest) ≡ appended l.fn.out.items (ranges_to l.most l.fn.rest)
