use Rattle.std.proofs.Common.{◌≡◌, drop}
use Rattle.std.specs.Prelude.{find as first_where}
use Rattle.rvd_fact.specs.Memory.{surrounds}
use Rattle.rvd_program.proofs.memory.surrounding.Given as goal

-- the first among the entries that are left is that among all
abbrev pub invariant-loop-entry : goal.invariant-loop-entry
invariant-loop-entry l = first_where (surrounds l.at) (drop l.entry-index l.entries) ≡ first_where (surrounds l.at) l.entries
