use Rattle.std.proofs.Common.{◌≡◌, ◌++◌}
use Rattle.rvd_elf.specs.Facts.{changes_of}
use Rattle.rvd_elf.proofs.facts.list_changes.Given as goal

abbrev pub invariant-loop-key : goal.invariant-loop-key
invariant-loop-key l = l.changes.items ++ changes_of l.key-iterator ≡ changes_of l.fn.cells.entries
