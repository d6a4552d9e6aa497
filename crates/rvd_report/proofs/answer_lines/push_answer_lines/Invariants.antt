use Rattle.std.proofs.Common.{◌≡◌, ◌++◌, take}
use Rattle.rvd_report.specs.Answers.{answer_lines}
use Rattle.rvd_report.proofs.answer_lines.push_answer_lines.Given as goal

-- the lines of the answers so far
abbrev pub invariant-loop-one : goal.invariant-loop-one
invariant-loop-one l = l.out.items ≡ l.fn.out.items ++ answer_lines (take l.one-index l.answered)
