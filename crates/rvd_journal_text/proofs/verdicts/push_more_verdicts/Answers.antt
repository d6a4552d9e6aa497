use Rattle.std.proofs.Common.{subst, take, OnErr, Ok, Err}
use Rattle.rvd_journal_text.specs.Verdicts.{more_verdicts}
use Rattle.rvd_notation.specs.Pieces.{Keeps}
use Rattle.rvd_notation.proofs.Kept.{Keeps-front}
use Rattle.rvd_journal_text.proofs.verdicts.push_more_verdicts.Goals as goal

pub returns-in_err-push_next_verdict-clause-err : goal.returns-in_err-push_next_verdict-clause-err
returns-in_err-push_next_verdict-clause-err c =
    let kept = subst (λ old. Keeps old c.push_next_verdict.new.out.items) c.loop-verdict.invariant c.in_err-push_next_verdict.ensures.err in
    let front = Keeps-front c.args.out.now.items (more_verdicts (take c.loop-verdict.verdict-index c.args.verdicts.now)) c.push_next_verdict.new.out.items kept in
    elim c.from_residual.result as (λ r. OnErr r (Keeps c.args.out.now.items c.push_next_verdict.new.out.items)) [ Ok _ ↦ tt | Err _ ↦ front ]
