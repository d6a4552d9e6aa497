use Rattle.rvd_judge.specs.Batches.{enabled_in}
use Rattle.rvd_judge.proofs.Outcomes.{Reaches, made}
use Rattle.rvd_judge.proofs.judging.judge.Given as goal

abbrev pub invariant-loop-place : goal.invariant-loop-place
invariant-loop-place l = Reaches (enabled_in l.enabled) l.job (made l.fn.work l.fn.again.items l.fn.changes.items) l.proposals l.place l.verdicts.items (made l.work l.again.items l.changes.items)
