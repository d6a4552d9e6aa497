use Rattle.std.proofs.Common.{◌≡◌, ◌-◌}
use Rattle.rvd_emul.specs.Machine.{start}
use Rattle.rvd_emul.specs.Run.{after_steps, run}
use Rattle.rvd_emul.proofs.running.emulate.Given as goal

-- what is done is followed by the run of the steps that are left
abbrev pub invariant-loop-step : goal.invariant-loop-step
invariant-loop-step l = run l.program l.n (start l.at) ≡ after_steps l.done.items (run l.program (l.n - l.step) l.machine)
