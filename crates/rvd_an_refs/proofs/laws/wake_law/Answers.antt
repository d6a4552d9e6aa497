use Rattle.rvd_an_refs.proofs.Waking.{wakes_refs_law}
use Rattle.rvd_an_refs.proofs.laws.wake_law.Goals as goal

pub returns : goal.returns
returns c = wakes_refs_law c.candidate_law.ensures.refs
