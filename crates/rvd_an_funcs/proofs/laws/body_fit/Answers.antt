use Rattle.rvd_an_funcs.proofs.BodyFitting.{body_fitting}
use Rattle.rvd_an_funcs.proofs.laws.body_fit.Goals as goal

pub returns : goal.returns
returns c = body_fitting
