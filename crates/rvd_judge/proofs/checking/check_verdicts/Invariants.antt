use Rattle.rvd_judge.specs.Batches.{enabled_in}
use Rattle.rvd_judge.proofs.Checked.{Leaves}
use Rattle.rvd_judge.proofs.Outcomes.{made}
use Rattle.rvd_judge.proofs.checking.check_verdicts.Given as goal

abbrev pub invariant-loop-place : goal.invariant-loop-place
invariant-loop-place l = Leaves (enabled_in l.enabled) l.job (made l.fn.work l.fn.again.items l.fn.changes.items) l.items l.verdicts l.place (made l.work l.again.items l.changes.items)
