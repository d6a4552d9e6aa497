use Rattle.std.proofs.Common.{subst}
use Rattle.rvd_top.specs.Endings.{IsBeforePut}
use Rattle.rvd_top.proofs.putting.put_answer.Goals as goal

pub returns-in-Err-clause-write : goal.returns-in-Err-clause-write
returns-in-Err-clause-write g c is = absurd (subst IsBeforePut is (c.requires c.in-Err.ending c.in-Err.is))
