use Rattle.std.proofs.Common.{◌≡◌, ◌++◌, take}
use Rattle.rvd_machine.specs.Enabled.{only_on}
use Rattle.rvd_judge.specs.Batches.{enabled_in}
use Rattle.rvd_judge.proofs.joining.add_enabled.Given as goal

abbrev pub invariant-loop-item : goal.invariant-loop-item
invariant-loop-item l = l.again.items ≡ l.fn.again.items ++ only_on (enabled_in l.enabled) (take l.item-index l.items)
