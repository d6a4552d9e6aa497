use Rattle.std.proofs.Common.{◌≡◌, ◌++◌, take}
use Rattle.rvd_journal_text.specs.Answers.{more_references}
use Rattle.rvd_journal_text.proofs.answers.push_more_references.Given as goal

-- those so far
abbrev pub invariant-loop-reference : goal.invariant-loop-reference
invariant-loop-reference l = l.out.items ≡ l.fn.out.items ++ more_references (take l.reference-index l.references)
