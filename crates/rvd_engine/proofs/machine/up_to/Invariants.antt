use Rattle.std.proofs.Common.{◌≡◌}
use Rattle.rvd_machine.specs.State.{up_to}
use Rattle.rvd_engine.proofs.machine.up_to.Given as goal

-- the numbers so far
abbrev pub invariant-loop-k : goal.invariant-loop-k
invariant-loop-k l = l.list.items ≡ up_to l.k
