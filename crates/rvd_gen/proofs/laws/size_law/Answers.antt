use Rattle.rvd_gen.proofs.Sizes.{length-image}
use Rattle.rvd_gen.proofs.laws.size_law.Goals as goal

pub returns : goal.returns
returns c = length-image
