use Rattle.rvd_edit.proofs.FurtherRefs.{none_yet, one_more}
use Rattle.rvd_edit.proofs.changing.push_further_refs.Goals as goal

pub loop-slot-init : goal.loop-slot-init
loop-slot-init c = none_yet c.args.changes.now.items c.args.program.now c.args.at

pub loop-slot-preserved : goal.loop-slot-preserved
loop-slot-preserved c = one_more c.args.changes.now.items c.loop-slot.changes.items c.push_further.new.changes.items c.args.program.now c.args.at c.loop-slot.slot c.slot_key.result c.slot_key.ensures c.loop-slot.invariant c.in_ok-push_further.ensures
