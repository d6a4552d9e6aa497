use Rattle.std.proofs.Common.{arith}
use Rattle.rvd_judge.proofs.Misfits.{ended_at, fitting_all, goes_on_at, none_is, past_all}
use Rattle.rvd_judge.proofs.places.misfit.Goals as goal

pub loop-place-preserved : goal.loop-place-preserved
loop-place-preserved c =
    goes_on_at c.args.items.now c.args.proposals.now c.loop-place.place _ c.item.result c.index-proposals-place.result c.is_same.result c.loop-place.invariant c.loop-place-test.true (omega arith) c.index-proposals-place.is c.item.ensures c.is_same.ensures c.if-not-is_same.false

pub returns-then-place-proposals-clause-place : goal.returns-then-place-proposals-clause-place
returns-then-place-proposals-clause-place c = ended_at c.args.items.now c.args.proposals.now c.loop-place.place c.loop-place.invariant c.loop-place-test.true c.if-place-proposals.true

pub returns-then-proposals-items-clause-place : goal.returns-then-proposals-items-clause-place
returns-then-proposals-items-clause-place c = past_all c.args.items.now c.args.proposals.now c.loop-place.place c.loop-place.invariant (omega arith) (omega arith) (omega arith)

pub returns-clause-none : goal.returns-clause-none
returns-clause-none c = none_is c.args.items.now c.args.proposals.now _ (fitting_all c.args.items.now c.args.proposals.now c.loop-place.place c.loop-place.invariant (omega arith) (omega arith))
