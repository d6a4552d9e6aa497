use Rattle.std.proofs.Common.{◌≡◌, take}
use Rattle.rvd_query.specs.Counts.{counts_of}
use Rattle.rvd_query.proofs.counting.counts_of.Given as goal

-- the counts of the entries so far
abbrev pub invariant-loop-entry : goal.invariant-loop-entry
invariant-loop-entry l = l.counts ≡ counts_of (take l.entry-index l.entries)
