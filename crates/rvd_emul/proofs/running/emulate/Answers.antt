use Rattle.std.proofs.Common.{ℕ, ◌-◌, ◌+◌, List, [], ◌∷◌, ◌++◌, sym, ap, subst, ◌∙◌}
use Rattle.rvd_emul.specs.Run.{IsStep, after_steps, run}
use Rattle.rvd_emul.proofs.Alike.{ends_done, ends_there, more_done}
use Rattle.rvd_emul.proofs.running.emulate.Goals as goal

pub returns-in-Ended : goal.returns-in-Ended
returns-in-Ended c =
    let S = c.args.program.now in
    c.trace_of.ensures
    ∙ ends_there S c.args.n c.loop-step.step _ c.loop-step.done.items c.loop-step.machine c.step.new.self c.in-Ended.end c.loop-step-test.true c.loop-step.invariant
    (subst (IsStep S c.loop-step.machine c.step.new.self) c.in-Ended.is c.in_ok-stepped.ensures)

pub loop-step-preserved : goal.loop-step-preserved
loop-step-preserved c =
    let S = c.args.program.now in
    more_done S c.args.n c.loop-step.step _ c.loop-step.done.items c.loop-step.machine c.step.new.self c.in-Done.word c.loop-step-test.true c.loop-step.invariant
    (subst (IsStep S c.loop-step.machine c.step.new.self) c.in-Done.is c.in_ok-stepped.ensures)
    ∙ ap (λ (steps : List (ℕ × ℕ)). after_steps steps (run S (c.args.n - (c.loop-step.step + 1)) c.step.new.self))
    (ap (λ (pc : ℕ). c.loop-step.done.items ++ (pc, c.in-Done.word) ∷ []) (sym c.pc-pc.ensures) ∙ sym c.in_ok-push-in-Done.ensures.items)

pub returns : goal.returns
returns c = c.trace_of-2.ensures ∙ ends_done c.args.program.now c.args.n c.loop-step.step _ c.loop-step.done.items c.loop-step.machine c.loop-step-test.false c.loop-step.invariant
