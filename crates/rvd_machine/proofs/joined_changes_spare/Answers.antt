use Rattle.rvd_machine.proofs.Joins.{joined_is_sparing}
use Rattle.rvd_machine.proofs.joined_changes_spare.Goals as goal

pub returns : goal.returns
returns c = joined_is_sparing (record { analysis = c.analysis_laws.ensures; listing = c.listing_law.ensures; edits_fit = c.edits_fit.ensures; no_analysis = c.edits_set_no_analysis.ensures })
