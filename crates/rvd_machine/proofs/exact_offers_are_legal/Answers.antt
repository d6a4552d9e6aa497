use Rattle.rvd_machine.proofs.Exacts.{exact_is_legal, exact_is_one}
use Rattle.rvd_machine.proofs.exact_offers_are_legal.Goals as goal

pub returns-clause-legal : goal.returns-clause-legal
returns-clause-legal c = exact_is_legal

pub returns-clause-one : goal.returns-clause-one
returns-clause-one c = exact_is_one
