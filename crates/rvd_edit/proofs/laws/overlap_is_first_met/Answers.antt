use Rattle.rvd_edit.proofs.FirstMet.{first_met_is_first}
use Rattle.rvd_edit.proofs.laws.overlap_is_first_met.Goals as goal

pub returns : goal.returns
returns c = first_met_is_first
