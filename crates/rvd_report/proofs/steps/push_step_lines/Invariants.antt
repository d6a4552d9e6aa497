use Rattle.std.proofs.Common.{◌≡◌, ◌++◌, take}
use Rattle.std.specs.List.{enumerate_from}
use Rattle.rvd_report.specs.History.{step_lines}
use Rattle.rvd_report.proofs.steps.push_step_lines.Given as goal

-- the lines of the steps so far
abbrev pub invariant-loop-index : goal.invariant-loop-index
invariant-loop-index l = l.out.items ≡ l.fn.out.items ++ step_lines l.names (take l.index (enumerate_from 1 l.steps))
