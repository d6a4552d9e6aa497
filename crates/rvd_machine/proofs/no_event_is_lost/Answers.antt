use Rattle.rvd_machine.proofs.Whole.{legal_is_sound}
use Rattle.rvd_machine.proofs.no_event_is_lost.Goals as goal

pub returns : goal.returns
returns c = legal_is_sound (record { analysis = c.analysis_laws.ensures; listing = c.listing_law.ensures; edits_fit = c.edits_fit.ensures; no_analysis = c.edits_set_no_analysis.ensures })
