-- No item before the start is queued, since fewer are.
use Rattle.std.proofs.Common.{◌≡◌, ◌∙◌, ap, not, true}
use Rattle.std.specs.List.{list_all}
use Rattle.rvd_ask.specs.declared.asks.Item.{Item}
use Rattle.rvd_ask.specs.Unsettled.{same_analyzer}
use Rattle.rvd_queue.specs.Cells.{Contents, is_from, queued_in}
use Rattle.rvd_queue.proofs.FirstItems.{all_left}
use Rattle.rvd_queue.proofs.queues.Queues.remove_analyzer.Goals as goal

pub invariant_of-self : goal.invariant_of-self
invariant_of-self c = record {
  in_order = c.remove_analyzer.ensures.order;
  from_start = ap (λ (contents : Contents). list_all (is_from c.self.inside.start) contents.queued) c.remove_analyzer.ensures.contents ∙ all_left (is_from c.self.inside.start) (λ (i : Item). not (same_analyzer c.args.analyzer i.analyzer)) (queued_in c.self.inside.cells.entries) c.self.invariant.from_start;
  counted = c.count_queued-self-inside.ensures;
}
