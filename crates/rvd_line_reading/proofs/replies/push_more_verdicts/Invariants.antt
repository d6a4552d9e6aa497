use Rattle.std.proofs.Common.{◌≡◌, ◌-◌, codes}
use Rattle.rvd_reading.specs.Lists.{appended, list_of}
use Rattle.rvd_journal_reading.specs.Verdicts.{verdict_of}
use Rattle.rvd_line_reading.proofs.replies.push_more_verdicts.Given as goal

-- the verdicts so far, with those that are left
abbrev pub invariant-loop-taken : goal.invariant-loop-taken
invariant-loop-taken l = appended l.out.items (list_of (l.most - l._taken) (codes " ") verdict_of l.rest) ≡ appended l.fn.out.items (list_of l.most (codes " ") verdict_of l.fn.rest)
