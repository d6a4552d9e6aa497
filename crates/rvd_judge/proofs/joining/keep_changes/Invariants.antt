use Rattle.std.proofs.Common.{◌≡◌, ◌++◌, take}
use Rattle.rvd_judge.proofs.joining.keep_changes.Given as goal

abbrev pub invariant-loop-change : goal.invariant-loop-change
invariant-loop-change l = l.kept.items ≡ l.fn.kept.items ++ take l.change-index l.changes
