use Rattle.std.proofs.Common.{take}
use Rattle.std.specs.List.{AllByRecursion}
use Rattle.rvd_journal_reading.specs.Verdicts.{FitsVerdict}
use Rattle.rvd_line_reading.proofs.parts.verdicts_in_range.Given as goal

-- so far
abbrev pub invariant-loop-verdict : goal.invariant-loop-verdict
invariant-loop-verdict l = AllByRecursion FitsVerdict (take l.verdict-index l.list)
