use Rattle.std.proofs.Common.{◌≡◌, ◌-◌, drop}
use Rattle.rvd_elf.specs.Segment.{apart}
use Rattle.rvd_elf.proofs.segment.check_apart.Given as goal

abbrev pub invariant-loop-i : goal.invariant-loop-i
invariant-loop-i l = apart l.regions ≡ apart (drop (l.i - 1) l.regions)
