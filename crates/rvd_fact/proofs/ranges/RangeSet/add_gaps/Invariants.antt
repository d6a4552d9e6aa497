use Rattle.std.proofs.Common.{◌-◌, ◌≤◌, length}
use Rattle.rvd_fact.proofs.RangeGaps.{IsWalk}
use Rattle.rvd_fact.proofs.ranges.RangeSet.add_gaps.Given as goal

abbrev pub invariant-loop-self : goal.invariant-loop-self
invariant-loop-self l = record {
  order : l.from ≤ l.last;
  walk : IsWalk l.self l.fn.out l.out l.first l.from l.place;
}

abbrev pub decreases-loop-self : goal.decreases-loop-self
decreases-loop-self l = length l.self - l.place
