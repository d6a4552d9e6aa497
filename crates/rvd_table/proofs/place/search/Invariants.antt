use Rattle.std.proofs.Common.{◌-◌, ◌≤◌, length}
use Rattle.rvd_table.proofs.Searching.{IsPassed, IsBelowFrom}
use Rattle.rvd_table.proofs.place.search.Given as goal

-- the key is above the entries before `low`, and below those from `high` on
abbrev pub invariant-loop-low : goal.invariant-loop-low
invariant-loop-low g l = record {
  ordered : l.low ≤ l.high;
  within : l.high ≤ length l.entries;
  above : IsPassed g.K.Ord.cmp l.key l.entries l.low;
  below : IsBelowFrom g.K.Ord.cmp l.key l.entries l.high;
}

-- what is left to search
abbrev pub decreases-loop-low : goal.decreases-loop-low
decreases-loop-low g l = l.high - l.low
