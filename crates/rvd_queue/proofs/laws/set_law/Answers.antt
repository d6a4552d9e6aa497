-- The law, as it is proved for sets of items.
use Rattle.rvd_queue.proofs.ItemSets.{set_law}
use Rattle.rvd_queue.proofs.laws.set_law.Goals as goal

pub returns : goal.returns
returns c = set_law
