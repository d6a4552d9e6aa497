use Rattle.rvd_an_strings.proofs.Waking.{waking}
use Rattle.rvd_an_strings.proofs.laws.wake_law.Goals as goal

pub returns : goal.returns
returns c = waking
