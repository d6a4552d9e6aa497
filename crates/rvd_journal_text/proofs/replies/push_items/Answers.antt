use Rattle.std.proofs.Common.{subst, take, OnErr, Ok, Err}
use Rattle.rvd_journal_text.specs.Replies.{item_words}
use Rattle.rvd_notation.specs.Pieces.{Keeps}
use Rattle.rvd_notation.proofs.Kept.{Keeps-front}
use Rattle.rvd_journal_text.proofs.replies.push_items.Goals as goal

pub returns-in_err-push_next_item-clause-err : goal.returns-in_err-push_next_item-clause-err
returns-in_err-push_next_item-clause-err c =
    let kept = subst (λ old. Keeps old c.push_next_item.new.out.items) c.loop-item.invariant c.in_err-push_next_item.ensures.err in
    let front = Keeps-front c.args.out.now.items (item_words (take c.loop-item.item-index c.args.items.now)) c.push_next_item.new.out.items kept in
    elim c.from_residual.result as (λ r. OnErr r (Keeps c.args.out.now.items c.push_next_item.new.out.items)) [ Ok _ ↦ tt | Err _ ↦ front ]
