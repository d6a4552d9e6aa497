use Rattle.rvd_gen.proofs.Functions.{works}
use Rattle.rvd_gen.proofs.laws.code_law.Goals as goal

pub returns : goal.returns
returns c = works
