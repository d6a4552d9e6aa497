-- An item before the first so far is the first now.
use Rattle.std.proofs.Common.{◌≡◌, ◌∙◌, sym, subst, take, ◌+◌}
use Rattle.rvd_ask.specs.declared.asks.Analyzer.TheVariants.{Flow}
use Rattle.rvd_queue.proofs.FirstItems.{IsEarliest, earlier, not_earlier}
use Rattle.rvd_queue.proofs.reads.earliest.Goals as goal
use Rattle.rvd_queue.proofs.reads.earliest.Goals.{in-Less, in_default}

pub loop-item-preserved : goal.loop-item-preserved
loop-item-preserved c = elim c.match-order.branch [
  | in-Less w ↦ subst (λ first. IsEarliest first c.args.start (take (c.loop-item.item-index + 1) c.args.items.now)) (sym w.first-is) (earlier c.loop-item.first c.args.start c.args.items.now c.loop-item.item-index (record { analyzer = Flow; at = 0 }) c.loop-item-test.true (sym c.order.ensures ∙ w.in-Less.is) c.loop-item.invariant)
  | in_default w ↦ subst (λ first. IsEarliest first c.args.start (take (c.loop-item.item-index + 1) c.args.items.now)) (sym w.first-is) (not_earlier c.loop-item.first c.args.start c.args.items.now c.loop-item.item-index (record { analyzer = Flow; at = 0 }) c.loop-item-test.true (λ less. w.in_default.not-Less (c.order.ensures ∙ less)) c.loop-item.invariant)
]
