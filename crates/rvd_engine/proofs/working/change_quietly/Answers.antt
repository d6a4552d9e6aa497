use Rattle.rvd_engine.specs.Inside.{enabled_of}
use Rattle.rvd_engine.proofs.Waking.{quiet-woken}
use Rattle.rvd_engine.proofs.working.change_quietly.Goals as goal

pub returns-clause-queued : goal.returns-clause-queued
returns-clause-queued c = λ queue. quiet-woken c.listing_law.ensures (enabled_of c.args.enabled) c.args.work.now c.args.changes.now queue c.requires.quiet
