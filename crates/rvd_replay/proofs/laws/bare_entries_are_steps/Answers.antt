use Rattle.rvd_replay.proofs.BareSteps.{bare_is_step}
use Rattle.rvd_replay.proofs.laws.bare_entries_are_steps.Goals as goal

pub returns : goal.returns
returns c = bare_is_step
