use Rattle.std.proofs.Common.{◌+◌, sym, ◌∙◌}
use Rattle.rvd_engine.specs.Settling.{settled_if}
use Rattle.rvd_admission.proofs.Outlooks.{on_busy, on_partial, on_quiet}
use Rattle.rvd_admission.proofs.looks.after_turn_on.Goals as goal

pub returns-then-not-is_whole : goal.returns-then-not-is_whole
returns-then-not-is_whole c = λ step. on_partial c.args.machine.now c.args.analyzer step (sym c.is_whole.ensures ∙ c.if-not-is_whole.true)

pub returns-then-not-is_quiet : goal.returns-then-not-is_quiet
returns-then-not-is_quiet c = λ step. on_busy c.args.machine.now c.args.analyzer step (sym c.is_quiet.ensures ∙ c.if-not-is_quiet.true)

pub returns : goal.returns
returns c = λ step.
    on_quiet c.args.machine.now c.args.analyzer step (sym c.is_whole.ensures ∙ c.if-not-is_whole.false) (sym c.is_quiet.ensures ∙ c.if-not-is_quiet.false)
    ∙ (λ k. settled_if (sym c.in_ok-none.ensures k) (sym c.steps.ensures.steps k + 1))
    ∙ sym c.settled_if.ensures
