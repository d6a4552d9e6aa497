-- No item before the start is queued, since fewer are; the first that is still queued is a start too.
use Rattle.std.proofs.Common.{◌≡◌, ◌∙◌, ◌-◌, ap, sym, not, true, length, Some, None, arith}
use Rattle.std.specs.List.{list_all}
use Rattle.std.specs.Map.{keys_of}
use Rattle.rvd_ask.specs.declared.asks.Item.{Item}
use Rattle.rvd_ask.specs.Unsettled.{has_item}
use Rattle.rvd_queue.specs.Cells.{is_from, is_queued, queued_in}
use Rattle.rvd_queue.proofs.FirstItems.{all_left, from_any, from_first}
use Rattle.rvd_queue.proofs.ItemSets.{sorted}
use Rattle.rvd_queue.proofs.Members.{sorted-items}
use Rattle.rvd_queue.proofs.queues.Queues.remove_all.Goals as goal

pub first_queued-requires : goal.first_queued-requires
first_queued-requires c = ap (list_all (is_from c.self.inside.start)) c.unqueue_all.ensures.queued ∙ all_left (is_from c.self.inside.start) (λ (i : Item). not (has_item i c.list.result.now)) (queued_in c.self.inside.cells.entries) c.self.invariant.from_start

pub invariant_of-self : goal.invariant_of-self
invariant_of-self c = record {
  in_order = c.unqueue_all.ensures.order;
  from_start = from_first c.in-Some.item (queued_in c.unqueue_all.new.cells.entries) (sorted-items is_queued c.unqueue_all.new.cells.entries (sorted (keys_of c.unqueue_all.new.cells.entries) c.unqueue_all.ensures.order)) (sym c.in-Some.is ∙ c.first_queued.ensures);
  counted = omega (arith, c.unqueue_all.ensures.count, c.self.invariant.counted);
}

pub invariant_of-self-in_default : goal.invariant_of-self-in_default
invariant_of-self-in_default c = record {
  in_order = c.unqueue_all.ensures.order;
  from_start = from_any c.self.inside.start (queued_in c.unqueue_all.new.cells.entries) (sym c.in_default.is ∙ c.first_queued.ensures);
  counted = omega (arith, c.unqueue_all.ensures.count, c.self.invariant.counted);
}
