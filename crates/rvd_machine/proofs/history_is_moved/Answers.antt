use Rattle.rvd_machine.proofs.Effects.{history_is_moved}
use Rattle.rvd_machine.proofs.history_is_moved.Goals as goal

pub returns : goal.returns
returns c = history_is_moved
