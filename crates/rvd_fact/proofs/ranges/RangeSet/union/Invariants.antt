use Rattle.std.proofs.Common.{◌+◌, ◌-◌, ◌≤◌, ◌||◌, length, take}
use Rattle.rvd_fact.specs.Ranges.{has_address, HasJust}
use Rattle.rvd_fact.proofs.ranges.RangeSet.union.Given as goal

abbrev pub invariant-loop-i : goal.invariant-loop-i
invariant-loop-i l = record {
  own : l.i ≤ length l.self;
  other : l.j ≤ length l.other;
  both : HasJust l.both (λ a. has_address a (take l.i l.self) || has_address a (take l.j l.other));
}

abbrev pub decreases-loop-i : goal.decreases-loop-i
decreases-loop-i l = (length l.self - l.i) + (length l.other - l.j)
