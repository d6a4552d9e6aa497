use Rattle.std.proofs.Common.{take}
use Rattle.rvd_an_funcs.proofs.RangesOf.{HasWords}
use Rattle.rvd_an_funcs.proofs.ranges.ranges_of.Given as goal

abbrev pub invariant-loop-at : goal.invariant-loop-at
invariant-loop-at l = HasWords l.set (take l.at-index l.members)
