use Rattle.rvd_an_funcs.proofs.FuncsWaking.{wakes_funcs_law}
use Rattle.rvd_an_funcs.proofs.laws.funcs_wake_law.Goals as goal

pub returns : goal.returns
returns c = wakes_funcs_law
