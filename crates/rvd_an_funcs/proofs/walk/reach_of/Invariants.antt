use Rattle.std.proofs.Common.{◌-◌, length}
use Rattle.std.specs.Prelude.{sum_by}
use Rattle.rvd_ask.specs.Reach.{code_addresses, ways}
use Rattle.rvd_an_funcs.proofs.WalkEnds.{HasWalked}
use Rattle.rvd_an_funcs.proofs.walk.reach_of.Given as goal

abbrev pub invariant-loop-next : goal.invariant-loop-next
invariant-loop-next g l = HasWalked (g.V.View.program l.view) l.entry l.fn.reads.items l.reads.items l.walk.members.items l.walk.ways.items l.walk.met.keys l.next

-- there are no more ways than those of all instructions
abbrev pub decreases-loop-next : goal.decreases-loop-next
decreases-loop-next g l = let P = g.V.View.program l.view in sum_by (λ y. length (ways P y)) (code_addresses P) - l.next
