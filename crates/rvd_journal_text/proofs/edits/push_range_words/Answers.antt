use Rattle.std.proofs.Common.{subst, take, OnErr, Ok, Err}
use Rattle.rvd_journal_text.specs.Edits.{range_words}
use Rattle.rvd_notation.specs.Pieces.{Keeps}
use Rattle.rvd_notation.proofs.Kept.{Keeps-front}
use Rattle.rvd_journal_text.proofs.edits.push_range_words.Goals as goal

pub returns-in_err-push_next_range-clause-err : goal.returns-in_err-push_next_range-clause-err
returns-in_err-push_next_range-clause-err c =
    let kept = subst (λ old. Keeps old c.push_next_range.new.out.items) c.loop-range.invariant c.in_err-push_next_range.ensures.err in
    let front = Keeps-front c.args.out.now.items (range_words (take c.loop-range.range-index c.args.ranges.now)) c.push_next_range.new.out.items kept in
    elim c.from_residual.result as (λ r. OnErr r (Keeps c.args.out.now.items c.push_next_range.new.out.items)) [ Ok _ ↦ tt | Err _ ↦ front ]
