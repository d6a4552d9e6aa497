use Rattle.std.proofs.Common.{◌≡◌, ◌-◌, codes}
use Rattle.rvd_reading.specs.Lists.{appended, list_of}
use Rattle.rvd_journal_reading.specs.Answers.{reference_of}
use Rattle.rvd_journal_reading.proofs.answers.push_more_references.Given as goal

-- the references so far, with those that are left
abbrev pub invariant-loop-taken : goal.invariant-loop-taken
invariant-loop-taken l = appended l.out.items (list_of (l.most - l._taken) (codes ",") reference_of l.rest) ≡ appended l.fn.out.items (list_of l.most (codes ",") reference_of l.fn.rest)
