use Rattle.std.proofs.Common.{◌++◌, List, ap, ◌∙◌}
use Rattle.rvd_ask.specs.declared.asks.Item.{Item}
use Rattle.rvd_judge.specs.Batches.{enabled_in}
use Rattle.rvd_judge.specs.Effects.{woken_in_turn}
use Rattle.rvd_queue.specs.Cells.{Contents}
use Rattle.rvd_engine.specs.Inside.{enabled_of}
use Rattle.rvd_engine.proofs.Waking.{queue_gains}
use Rattle.rvd_engine.proofs.working.change_work.Goals as goal

pub returns-clause-queued : goal.returns-clause-queued
returns-clause-queued c =
    c.in_ok-add_all.ensures.ok
    ∙ ap (λ (xs : List Item). let q : Contents = record { queued = xs; kept = c.args.queues.now.kept } in q)
    (queue_gains (enabled_of c.args.enabled) (enabled_in c.deref.result.now) c.args.work.now c.in_ok-next.next c.args.changes.now c.apply_in_turn.new.again.items c.deref-2.result.now c.args.queues.now.queued
    (ap enabled_in c.deref.ensures.value ∙ c.in_ok-list.ensures)
    c.in_ok-next.ensures
    (c.in_ok-apply_in_turn.ensures.again ∙ ap (λ (xs : List Item). xs ++ woken_in_turn (enabled_in c.deref.result.now) c.in_ok-next.next c.args.changes.now) c.new-woken.ensures.items)
    c.deref-2.ensures.value)
