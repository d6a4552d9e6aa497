use Rattle.rvd_edit.proofs.NoAnalysis.{no_analysis}
use Rattle.rvd_edit.proofs.laws.edits_set_no_analysis.Goals as goal

pub returns : goal.returns
returns c = no_analysis
