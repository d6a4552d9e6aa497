use Rattle.std.proofs.Common.{◌≡◌, take}
use Rattle.rvd_top.specs.Summary.{number_of}
use Rattle.rvd_top.proofs.summary.count.Given as goal

-- how many there are among the entries so far
abbrev pub invariant-loop-entry : goal.invariant-loop-entry
invariant-loop-entry l = l.number ≡ number_of l.kind (take l.entry-index l.entries)
