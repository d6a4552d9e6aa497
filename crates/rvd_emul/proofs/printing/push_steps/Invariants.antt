use Rattle.std.proofs.Common.{◌≡◌, ◌++◌, take}
use Rattle.rvd_emul.specs.Text.{step_lines}
use Rattle.rvd_emul.proofs.printing.push_steps.Given as goal

-- the lines of the steps so far
abbrev pub invariant-loop-at : goal.invariant-loop-at
invariant-loop-at l = l.out.items ≡ l.fn.out.items ++ step_lines (take l.at-index l.done)
