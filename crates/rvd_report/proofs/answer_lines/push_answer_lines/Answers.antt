use Rattle.std.proofs.Common.{subst, take, OnErr, Ok, Err}
use Rattle.rvd_notation.specs.Pieces.{Keeps}
use Rattle.rvd_notation.proofs.Kept.{Keeps-front}
use Rattle.rvd_report.specs.Answers.{answer_lines}
use Rattle.rvd_report.proofs.answer_lines.push_answer_lines.Goals as goal

pub returns-in_err-push_answer_line-clause-err : goal.returns-in_err-push_answer_line-clause-err
returns-in_err-push_answer_line-clause-err c =
    let kept = subst (λ old. Keeps old c.push_answer_line.new.out.items) c.loop-one.invariant c.in_err-push_answer_line.ensures.err in
    let front = Keeps-front c.args.out.now.items (answer_lines (take c.loop-one.one-index c.args.answered.now)) c.push_answer_line.new.out.items kept in
    elim c.from_residual.result as (λ r. OnErr r (Keeps c.args.out.now.items c.push_answer_line.new.out.items)) [ Ok _ ↦ tt | Err _ ↦ front ]
