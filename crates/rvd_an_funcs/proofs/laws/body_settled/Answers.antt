use Rattle.rvd_an_funcs.proofs.BodySettling.{body_settling}
use Rattle.rvd_an_funcs.proofs.laws.body_settled.Goals as goal

pub returns : goal.returns
returns c = body_settling
