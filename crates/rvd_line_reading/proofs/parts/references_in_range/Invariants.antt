use Rattle.std.proofs.Common.{take}
use Rattle.std.specs.List.{AllByRecursion}
use Rattle.rvd_journal_reading.specs.Answers.{FitsReference}
use Rattle.rvd_line_reading.proofs.parts.references_in_range.Given as goal

-- so far
abbrev pub invariant-loop-slot : goal.invariant-loop-slot
invariant-loop-slot l = AllByRecursion FitsReference (take l.slot-index l.list)
