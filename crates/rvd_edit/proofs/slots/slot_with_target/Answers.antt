use Rattle.std.proofs.Common.{◌∙◌, sym, ap}
use Rattle.rvd_fact.specs.declared.keys.Kind.TheVariants as kind
use Rattle.rvd_fact.specs.Program.{cell_at}
use Rattle.rvd_edit.specs.Slots.{has_target, slot_key}
use Rattle.rvd_edit.proofs.FirstSlot.{passed, found, none_left}
use Rattle.rvd_edit.proofs.slots.slot_with_target.Goals as goal

pub returns-then-has_target : goal.returns-then-has_target
returns-then-has_target c =
    let low = c.loop-slot-test.true in
    let key = ap (λ k. has_target c.args.to c.args.class (cell_at c.args.program.now k)) c.slot_key.ensures in
    let passes = sym key ∙ sym (ap (has_target c.args.to c.args.class) c.cell.ensures.cell) ∙ sym c.has_target.ensures ∙ c.if-has_target.true in
    sym (found (λ slot. has_target c.args.to c.args.class (cell_at c.args.program.now (slot_key kind.Ref c.args.at slot))) c.loop-slot.slot low passes) ∙ c.loop-slot.invariant

pub loop-slot-preserved : goal.loop-slot-preserved
loop-slot-preserved c =
    let low = c.loop-slot-test.true in
    let key = ap (λ k. has_target c.args.to c.args.class (cell_at c.args.program.now k)) c.slot_key.ensures in
    let fails = sym key ∙ sym (ap (has_target c.args.to c.args.class) c.cell.ensures.cell) ∙ sym c.has_target.ensures ∙ c.if-has_target.false in
    sym (passed (λ slot. has_target c.args.to c.args.class (cell_at c.args.program.now (slot_key kind.Ref c.args.at slot))) c.loop-slot.slot low fails) ∙ c.loop-slot.invariant

pub returns : goal.returns
returns c =
    sym (none_left (λ slot. has_target c.args.to c.args.class (cell_at c.args.program.now (slot_key kind.Ref c.args.at slot))) c.loop-slot.slot c.loop-slot-test.false) ∙ c.loop-slot.invariant
