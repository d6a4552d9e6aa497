use Rattle.rvd_machine.proofs.Proper.{made_is_proper}
use Rattle.rvd_machine.proofs.made_offers_are_proper.Goals as goal

pub returns : goal.returns
returns c = made_is_proper
