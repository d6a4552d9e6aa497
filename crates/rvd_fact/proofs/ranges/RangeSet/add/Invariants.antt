use Rattle.std.proofs.Common.{◌≡◌, ◌-◌, ◌≤◌, length, drop}
use Rattle.rvd_fact.proofs.RangeJoins.{joined}
use Rattle.rvd_fact.proofs.ranges.RangeSet.add.Given as goal

abbrev pub invariant-loop-self : goal.invariant-loop-self
invariant-loop-self l = record {
  order : l.from ≤ l.to;
  bound : l.to ≤ length l.self-inside.ranges.items;
  low : l.low ≤ l.first;
  high : l.last ≤ l.high;
  met : joined (drop l.from l.self-inside.ranges.items) l.first l.last ≡ joined (drop l.to l.self-inside.ranges.items) l.low l.high;
}

abbrev pub decreases-loop-self : goal.decreases-loop-self
decreases-loop-self l = length l.self-inside.ranges.items - l.to
