use Rattle.std.proofs.Common.{◌≡◌, true, take}
use Rattle.std.specs.List.{list_all}
use Rattle.rvd_machine.specs.Ranges.{is_reference}
use Rattle.rvd_engine.proofs.parts.references_in_range.Given as goal

abbrev pub invariant-loop-slot : goal.invariant-loop-slot
invariant-loop-slot l = list_all is_reference (take l.slot-index l.list) ≡ true
