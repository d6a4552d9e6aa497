use Rattle.rvd_machine.proofs.Effects.{refused_counts_alone}
use Rattle.rvd_machine.proofs.refused_counts_alone.Goals as goal

pub returns : goal.returns
returns c = refused_counts_alone
