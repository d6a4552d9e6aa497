use Rattle.rvd_edit.proofs.EditsFit.{edits_fit}
use Rattle.rvd_edit.proofs.laws.edits_fit.Goals as goal

pub returns : goal.returns
returns c = edits_fit
