use Rattle.std.proofs.Common.{◌≡◌, ◌+◌, drop}
use Rattle.rvd_machine.specs.Replies.{last_settled, last_settled_from}
use Rattle.rvd_engine.proofs.history.last_settled.Given as goal

-- the steps so far are counted, and the rest goes on from what they had
abbrev pub invariant-loop-step : goal.invariant-loop-step
invariant-loop-step l = (l.number ≡ l.step-index) × (last_settled_from (l.step-index + 1) l.found (drop l.step-index l.steps) ≡ last_settled l.steps)
