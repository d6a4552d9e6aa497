use Rattle.rvd_judge.proofs.Misfits.{IsFrom}
use Rattle.rvd_judge.proofs.places.misfit.Given as goal

abbrev pub invariant-loop-place : goal.invariant-loop-place
invariant-loop-place l = IsFrom l.items l.proposals l.place
