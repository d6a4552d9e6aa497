use Rattle.rvd_an_funcs.proofs.FuncsFitting.{funcs_fitting}
use Rattle.rvd_an_funcs.proofs.laws.funcs_fit.Goals as goal

pub returns : goal.returns
returns c = funcs_fitting
