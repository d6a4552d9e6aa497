use Rattle.rvd_an_flow.proofs.Fitting.{fits}
use Rattle.rvd_an_flow.proofs.laws.flow_fit.Goals as goal

pub returns : goal.returns
returns c = fits
