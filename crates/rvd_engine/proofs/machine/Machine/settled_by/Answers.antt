use Rattle.std.proofs.Common.{sym, ◌∙◌}
use Rattle.rvd_engine.specs.Settling.{settled_if}
use Rattle.rvd_engine.proofs.Emptiness.{noted_by}
use Rattle.rvd_engine.proofs.machine.Machine.settled_by.Goals as goal

pub returns : goal.returns
returns c = λ actor.
    noted_by c.args.self.now actor c.args.ticket c.args.outcome.now c.requires
    ∙ (λ k. settled_if (sym c.settles_by.ensures k) (sym c.made_by.ensures.steps k))
    ∙ sym c.settled_if.ensures
