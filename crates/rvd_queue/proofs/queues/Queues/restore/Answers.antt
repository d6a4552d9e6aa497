-- No item comes before the first of all.
use Rattle.rvd_queue.specs.Cells.{queued_in}
use Rattle.rvd_queue.proofs.FirstItems.{from_least}
use Rattle.rvd_queue.proofs.queues.Queues.restore.Goals as goal

pub invariant_of-self : goal.invariant_of-self
invariant_of-self c = record {
  in_order = c.restore-self-inside.ensures.order;
  from_start = from_least (queued_in c.restore-self-inside.new.cells.entries);
  counted = c.restore-self-inside.ensures.count;
}
