use Rattle.std.proofs.Common.{◌-◌, ◌<◌, ◌≤◌, length}
use Rattle.std.specs.List.{AllWithin}
use Rattle.rvd_fact.proofs.ranges.place_from.Given as goal

abbrev pub invariant-loop-low : goal.invariant-loop-low
invariant-loop-low l = record {
  order : l.low ≤ l.high;
  bound : l.high ≤ length l.ranges;
  below : AllWithin (λ r. r.1 < l.at) l.ranges 0 l.low;
  above : AllWithin (λ r. l.at ≤ r.1) l.ranges l.high (length l.ranges);
}

abbrev pub decreases-loop-low : goal.decreases-loop-low
decreases-loop-low l = l.high - l.low
