use Rattle.std.proofs.Common.{◌+◌, sym, ◌∙◌}
use Rattle.rvd_engine.specs.Settling.{settled_if}
use Rattle.rvd_admission.proofs.Outlooks.{full_busy, full_quiet}
use Rattle.rvd_admission.proofs.looks.after_full.Goals as goal

pub returns-then-not-is_quiet : goal.returns-then-not-is_quiet
returns-then-not-is_quiet c = λ step. full_busy c.args.machine.now step (sym c.is_quiet.ensures ∙ c.if-not-is_quiet.true)

pub returns : goal.returns
returns c = λ step.
    full_quiet c.args.machine.now step (sym c.is_quiet.ensures ∙ c.if-not-is_quiet.false)
    ∙ (λ k. settled_if (sym c.in_ok-none.ensures k) (sym c.steps.ensures.steps k + 1))
    ∙ sym c.settled_if.ensures
