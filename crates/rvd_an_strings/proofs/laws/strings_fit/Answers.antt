use Rattle.rvd_an_strings.proofs.Fitting.{strings_fitting}
use Rattle.rvd_an_strings.proofs.laws.strings_fit.Goals as goal

pub returns : goal.returns
returns c = strings_fitting
