use Rattle.rvd_machine.proofs.Bounds.{legal_is_bounded}
use Rattle.rvd_machine.proofs.journals_are_bounded.Goals as goal

pub returns : goal.returns
returns c = legal_is_bounded
