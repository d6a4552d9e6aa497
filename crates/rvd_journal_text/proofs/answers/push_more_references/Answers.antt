use Rattle.std.proofs.Common.{subst, take, OnErr, Ok, Err}
use Rattle.rvd_journal_text.specs.Answers.{more_references}
use Rattle.rvd_notation.specs.Pieces.{Keeps}
use Rattle.rvd_notation.proofs.Kept.{Keeps-front}
use Rattle.rvd_journal_text.proofs.answers.push_more_references.Goals as goal

pub returns-in_err-push_next_reference-clause-err : goal.returns-in_err-push_next_reference-clause-err
returns-in_err-push_next_reference-clause-err c =
    let kept = subst (λ old. Keeps old c.push_next_reference.new.out.items) c.loop-reference.invariant c.in_err-push_next_reference.ensures.err in
    let front = Keeps-front c.args.out.now.items (more_references (take c.loop-reference.reference-index c.args.references.now)) c.push_next_reference.new.out.items kept in
    elim c.from_residual.result as (λ r. OnErr r (Keeps c.args.out.now.items c.push_next_reference.new.out.items)) [ Ok _ ↦ tt | Err _ ↦ front ]
