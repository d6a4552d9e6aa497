use Rattle.rvd_machine.proofs.Finish.{finish_stays_all}
use Rattle.rvd_machine.proofs.finish_stays.Goals as goal

pub returns : goal.returns
returns c = finish_stays_all
