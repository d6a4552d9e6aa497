-- The items of cells in order are sets.
use Rattle.rvd_queue.proofs.Members.{are_sets}
use Rattle.rvd_queue.proofs.queues.Queues.len.Goals as goal

pub returns-clause-sets : goal.returns-clause-sets
returns-clause-sets c = are_sets c.self.inside.cells.entries c.args.self.now c.self.view_is c.self.invariant.in_order
