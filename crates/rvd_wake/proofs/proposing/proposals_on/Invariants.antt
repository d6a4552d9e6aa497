use Rattle.std.proofs.Common.{take}
use Rattle.rvd_wake.specs.Made.{AreMadeOn}
use Rattle.rvd_wake.proofs.proposing.proposals_on.Given as goal

abbrev pub invariant-loop-item : goal.invariant-loop-item
invariant-loop-item l = AreMadeOn l.program (take l.item-index l.items) l.proposals.items
