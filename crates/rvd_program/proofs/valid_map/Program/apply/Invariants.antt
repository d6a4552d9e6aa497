use Rattle.std.proofs.Common.{◌≡◌, drop}
use Rattle.rvd_fact.specs.Program.{applied_all}
use Rattle.rvd_program.proofs.valid_map.Program.apply.Given as goal

-- the changes that are left lead where all lead
abbrev pub invariant-loop-change : goal.invariant-loop-change
invariant-loop-change l = applied_all l.next (drop l.change-index l.changes) ≡ applied_all l.self-inside.cells l.changes
