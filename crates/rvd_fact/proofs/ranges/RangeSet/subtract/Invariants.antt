use Rattle.std.proofs.Common.{◌&&◌, not, take}
use Rattle.rvd_fact.specs.Ranges.{has_address, HasJust}
use Rattle.rvd_fact.proofs.ranges.RangeSet.subtract.Given as goal

abbrev pub invariant-loop-first : goal.invariant-loop-first
invariant-loop-first l = HasJust l.rest (λ a. has_address a (take l.first-index l.self) && not (has_address a l.other))
