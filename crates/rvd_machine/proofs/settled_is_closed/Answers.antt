use Rattle.rvd_machine.proofs.Closed.{settled_is_closed}
use Rattle.rvd_machine.proofs.settled_is_closed.Goals as goal

pub returns : goal.returns
returns c = settled_is_closed (record { analysis = c.analysis_laws.ensures; listing = c.listing_law.ensures; edits_fit = c.edits_fit.ensures; no_analysis = c.edits_set_no_analysis.ensures })
