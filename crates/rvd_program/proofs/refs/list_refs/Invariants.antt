use Rattle.std.proofs.Common.{◌≡◌, take}
use Rattle.rvd_fact.specs.Memory.{refs_from}
use Rattle.rvd_program.proofs.refs.list_refs.Given as goal

-- the references of the entries so far
abbrev pub invariant-loop-entry : goal.invariant-loop-entry
invariant-loop-entry l = l.list.items ≡ refs_from (take l.entry-index l.entries) l.at
