use Rattle.std.proofs.Common.{◌≡◌, ◌-◌, []}
use Rattle.rvd_reading.specs.Lists.{appended, list_of}
use Rattle.rvd_journal_reading.specs.Answers.{hex2_of}
use Rattle.rvd_journal_reading.proofs.answers.push_bytes.Given as goal

-- the bytes so far, with those that are left
abbrev pub invariant-loop-taken : goal.invariant-loop-taken
invariant-loop-taken l = appended l.out.items (list_of (l.count - l._taken) [] hex2_of l.rest) ≡ appended l.fn.out.items (list_of l.count [] hex2_of l.fn.rest)
