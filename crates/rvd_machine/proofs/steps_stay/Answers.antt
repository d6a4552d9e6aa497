use Rattle.rvd_machine.proofs.Readings.{steps_stay_all}
use Rattle.rvd_machine.proofs.steps_stay.Goals as goal

pub returns : goal.returns
returns c = steps_stay_all
