use Rattle.std.proofs.Common.{◌≡◌, ◌++◌}
use Rattle.rvd_edit.specs.Changes.{further_refs}
use Rattle.rvd_edit.proofs.changing.push_further_refs.Given as goal

-- the changes of the slots so far
abbrev pub invariant-loop-slot : goal.invariant-loop-slot
invariant-loop-slot l = l.changes.items ≡ l.fn.changes.items ++ further_refs l.program l.at l.slot
