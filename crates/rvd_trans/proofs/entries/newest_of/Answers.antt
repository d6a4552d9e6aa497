use Rattle.std.proofs.Common.{sym}
use Rattle.rvd_trans.proofs.NewestEntry.{newest_is}
use Rattle.rvd_trans.proofs.entries.newest_of.Goals as goal

pub returns-then-entries-place-clause-found : goal.returns-then-entries-place-clause-found
returns-then-entries-place-clause-found c =
    sym (newest_is c.args.actor c.args.entries.now c.loop-place.place _ c.loop-place-test.true c.loop-place.invariant.0 c.loop-place.invariant.1 c.if-entries-place.true).1

pub returns-then-entries-place-clause-newest : goal.returns-then-entries-place-clause-newest
returns-then-entries-place-clause-newest c =
    (newest_is c.args.actor c.args.entries.now c.loop-place.place _ c.loop-place-test.true c.loop-place.invariant.0 c.loop-place.invariant.1 c.if-entries-place.true).2
