use Rattle.std.proofs.Common.{◌≡◌, take}
use Rattle.rvd_fact.proofs.RangeCuts.{without}
use Rattle.rvd_fact.proofs.ranges.RangeSet.remove.Given as goal

abbrev pub invariant-loop-start : goal.invariant-loop-start
invariant-loop-start l = l.rest.items ≡ without l.first l.last (take l.start-index l.start-items)
