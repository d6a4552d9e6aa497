use Rattle.std.proofs.Common.{◌<◌, length, arith}
use Rattle.std.proofs.lemmas.List.{get_or_read}
use Rattle.rvd_ask.specs.Reach.{reach}
use Rattle.rvd_an_funcs.proofs.CodeOrder.{reach_rises}
use Rattle.rvd_an_funcs.proofs.Sorted.{sorted_is}
use Rattle.rvd_an_funcs.proofs.WalkEnds.{reads_begun, reads_done, reads_stepped, walk_members, walk_short}
use Rattle.rvd_an_funcs.proofs.walk.reach_of.Goals as goal

pub loop-next-init : goal.loop-next-init
loop-next-init g c =
    let done = c.in_ok-walk.ensures in
    reads_begun (g.V.View.program c.args.view.now) c.args.entry c.requires _ _ _ _ _ done.met done.members done.ways done.reads

pub loop-next-smaller : goal.loop-next-smaller
loop-next-smaller g c =
    let short = walk_short (g.V.View.program c.args.view.now) c.args.entry c.requires _ _ _ _ _ c.loop-next.invariant.walked in
    omega (arith, short, c.loop-next.walk.ways.ok.0)

pub loop-next-preserved : goal.loop-next-preserved
loop-next-preserved g c =
    let met = c.in_ok-meet.ensures in
    let ways = c.loop-next.walk.ways.items in
    let within : c.loop-next.next < length ways = omega (arith, c.loop-next.walk.ways.ok.0) in
    reads_stepped (g.V.View.program c.args.view.now) c.args.entry c.requires _ _ _ _ _ _ _ _ _ _ c.index-way.result.now c.loop-next.invariant within
    (get_or_read ways c.loop-next.next c.index-way.result.now within c.index-way.ensures 0) met.met met.members met.ways met.reads

pub returns-clause-members : goal.returns-clause-members
returns-clause-members g c =
    let P = g.V.View.program c.args.view.now in
    let valid = c.requires in
    sorted_is _ _ (reach P c.args.entry) c.loop-next.invariant.walked.distinct c.sort_unstable.ensures.permutation c.sort_unstable.ensures.sorted (reach_rises P c.args.entry valid)
    (walk_members P c.args.entry valid _ _ _ _ _ c.loop-next.invariant.walked (omega arith))

pub returns-clause-reads : goal.returns-clause-reads
returns-clause-reads g c = reads_done (g.V.View.program c.args.view.now) c.args.entry c.requires _ _ _ _ _ _ c.loop-next.invariant (omega arith)
