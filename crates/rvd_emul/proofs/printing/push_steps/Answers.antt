use Rattle.std.proofs.Common.{subst, take, OnErr, Ok, Err}
use Rattle.rvd_notation.specs.Pieces.{Keeps}
use Rattle.rvd_notation.proofs.Kept.{Keeps-front}
use Rattle.rvd_emul.specs.Text.{step_lines}
use Rattle.rvd_emul.proofs.printing.push_steps.Goals as goal

pub returns-in_err-push_step-clause-err : goal.returns-in_err-push_step-clause-err
returns-in_err-push_step-clause-err c =
    let kept = subst (λ old. Keeps old c.push_step.new.out.items) c.loop-at.invariant c.in_err-push_step.ensures.err in
    let front = Keeps-front c.args.out.now.items (step_lines (take c.loop-at.at-index c.args.done.now)) c.push_step.new.out.items kept in
    elim c.from_residual.result as (λ r. OnErr r (Keeps c.args.out.now.items c.push_step.new.out.items)) [ Ok _ ↦ tt | Err _ ↦ front ]
