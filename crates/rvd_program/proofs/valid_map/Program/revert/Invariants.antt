use Rattle.std.proofs.Common.{◌≡◌, ◌≤◌, drop, length}
use Rattle.rvd_fact.specs.Program.{reverted_all}
use Rattle.rvd_program.proofs.valid_map.Program.revert.Given as goal

-- the changes from here on are undone
abbrev pub invariant-loop-left : goal.invariant-loop-left
invariant-loop-left l = (l.left ≤ length l.changes) × (l.next ≡ reverted_all l.self-inside.cells (drop l.left l.changes))

abbrev pub decreases-loop-left : goal.decreases-loop-left
decreases-loop-left l = l.left
