use Rattle.std.proofs.Common.{◌≡◌, ◌++◌, drop}
use Rattle.rvd_fact.specs.Program.{applied_all}
use Rattle.rvd_fact.specs.Valid.{Fits}
use Rattle.rvd_judge.specs.Batches.{enabled_in}
use Rattle.rvd_judge.specs.Effects.{woken_in_turn}
use Rattle.rvd_judge.proofs.joining.apply_in_turn.Given as goal

-- what is left to apply leads to the same program, and wakes the items that are left
abbrev pub invariant-loop-change : goal.invariant-loop-change
invariant-loop-change l = record {
  fits : Fits l.work (drop l.change-index l.changes);
  work : applied_all l.work (drop l.change-index l.changes) ≡ applied_all l.fn.work l.changes;
  again : l.again.items ++ woken_in_turn (enabled_in l.enabled) l.work (drop l.change-index l.changes) ≡ l.fn.again.items ++ woken_in_turn (enabled_in l.enabled) l.fn.work l.changes;
}
