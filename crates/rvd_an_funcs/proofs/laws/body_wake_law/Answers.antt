use Rattle.rvd_an_funcs.proofs.BodyWaking.{wakes_body_law}
use Rattle.rvd_an_funcs.proofs.laws.body_wake_law.Goals as goal

pub returns : goal.returns
returns c = wakes_body_law
