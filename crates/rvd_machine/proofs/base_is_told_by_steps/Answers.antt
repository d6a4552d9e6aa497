use Rattle.rvd_machine.proofs.Readings.{base_is_at_steps}
use Rattle.rvd_machine.proofs.base_is_told_by_steps.Goals as goal

pub returns : goal.returns
returns c = base_is_at_steps
