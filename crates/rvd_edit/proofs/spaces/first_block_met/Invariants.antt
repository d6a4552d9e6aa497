use Rattle.std.proofs.Common.{◌≡◌, drop}
use Rattle.std.specs.Prelude.{find as first_where}
use Rattle.rvd_fact.specs.Memory.{block_len}
use Rattle.rvd_edit.specs.Spaces.{meets}
use Rattle.rvd_edit.proofs.spaces.first_block_met.Given as goal

-- the first among the entries that are left is that among all
abbrev pub invariant-loop-entry : goal.invariant-loop-entry
invariant-loop-entry l = first_where (meets block_len l.at l.n) (drop l.entry-index l.entries) ≡ first_where (meets block_len l.at l.n) l.entries
