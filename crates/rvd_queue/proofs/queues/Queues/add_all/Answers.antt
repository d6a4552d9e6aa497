-- The start moves to the earliest of the new items, where that comes before it.
use Rattle.std.proofs.Common.{◌≡◌, ◌∙◌, ◌+◌, ap, sym, true, length, arith}
use Rattle.std.specs.List.{list_all}
use Rattle.std.specs.Map.{keys_of}
use Rattle.rvd_ask.specs.declared.asks.Item.{Item}
use Rattle.rvd_ask.specs.Unsettled.{are_in_order}
use Rattle.rvd_queue.specs.Cells.{Contents, is_from, queued_in}
use Rattle.rvd_queue.proofs.FirstItems.{all_with_all, all_weaker, from_through}
use Rattle.rvd_queue.proofs.queues.Queues.add_all.Goals as goal

pub invariant_of-self-2 : goal.invariant_of-self-2
invariant_of-self-2 c =
    let queued : queued_in c.make_room.new.cells.entries ≡ queued_in c.self.inside.cells.entries = ap (λ (contents : Contents). contents.queued) c.make_room.ensures.contents in
    record {
      in_order = ap are_in_order (c.keep_all.ensures.keys ∙ c.queue_all.ensures.keys) ∙ c.make_room.ensures.order;
      from_start = ap (list_all (is_from c.earliest-self-inside.result)) (c.keep_all.ensures.queued ∙ c.queue_all.ensures.queued)
          ∙ all_with_all (is_from c.earliest-self-inside.result) c.args.queued.now (queued_in c.make_room.new.cells.entries) c.earliest-self-inside.ensures.items
          (ap (list_all (is_from c.earliest-self-inside.result)) queued ∙ all_weaker (is_from c.earliest-self-inside.result) (is_from c.self.inside.start) (λ i. from_through c.earliest-self-inside.result c.self.inside.start i c.earliest-self-inside.ensures.start) (queued_in c.self.inside.cells.entries) c.self.invariant.from_start);
      counted = omega (arith, c.queue_all.ensures.count, ap length queued, ap length c.keep_all.ensures.queued, c.self.invariant.counted);
    }
