use Rattle.rvd_an_refs.proofs.Fitting.{refs_fitting}
use Rattle.rvd_an_refs.proofs.laws.refs_fit.Goals as goal

pub returns : goal.returns
returns c = refs_fitting
