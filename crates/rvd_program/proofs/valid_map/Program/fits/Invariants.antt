use Rattle.std.proofs.Common.{◌↔◌, drop}
use Rattle.rvd_fact.specs.Valid.{Fits, IsValid}
use Rattle.rvd_program.proofs.valid_map.Program.fits.Given as goal

-- the changes so far fit, so that all fit exactly where those that are left do
abbrev pub invariant-loop-change : goal.invariant-loop-change
invariant-loop-change l = IsValid l.next × (Fits l.next (drop l.change-index l.changes) ↔ Fits l.self l.changes)
