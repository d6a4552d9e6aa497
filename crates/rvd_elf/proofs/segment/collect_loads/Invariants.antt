use Rattle.std.proofs.Common.{◌≡◌, Ok}
use Rattle.rvd_elf.specs.Steps.{in_turn}
use Rattle.rvd_elf.specs.Segment.{load_step}
use Rattle.rvd_elf.proofs.segment.collect_loads.Given as goal

abbrev pub invariant-loop-index : goal.invariant-loop-index
invariant-loop-index l = in_turn (load_step l.bytes l.header) l.index ≡ Ok l.regions.items
