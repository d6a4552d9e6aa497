use Rattle.std.proofs.Common.{◌≡◌, ◌++◌, take}
use Rattle.rvd_report.specs.Listing.{lines}
use Rattle.rvd_report.proofs.listings.push_lines.Given as goal

-- the lines of the entries so far
abbrev pub invariant-loop-entry : goal.invariant-loop-entry
invariant-loop-entry l = l.out.items ≡ l.fn.out.items ++ lines l.program (take l.entry-index l.entries)
