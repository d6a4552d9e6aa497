use Rattle.rvd_an_flow.proofs.Waking.{law}
use Rattle.rvd_an_flow.proofs.laws.wake_law.Goals as goal

pub returns : goal.returns
returns c = law
