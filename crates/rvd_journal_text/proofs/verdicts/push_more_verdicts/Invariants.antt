use Rattle.std.proofs.Common.{◌≡◌, ◌++◌, take}
use Rattle.rvd_journal_text.specs.Verdicts.{more_verdicts}
use Rattle.rvd_journal_text.proofs.verdicts.push_more_verdicts.Given as goal

-- those so far
abbrev pub invariant-loop-verdict : goal.invariant-loop-verdict
invariant-loop-verdict l = l.out.items ≡ l.fn.out.items ++ more_verdicts (take l.verdict-index l.verdicts)
