use Rattle.std.proofs.Common.{take}
use Rattle.rvd_queue.proofs.FirstItems.{IsEarliest}
use Rattle.rvd_queue.proofs.reads.earliest.Given as goal

abbrev pub invariant-loop-item : goal.invariant-loop-item
invariant-loop-item l = IsEarliest l.first l.fn.start (take l.item-index l.items)
