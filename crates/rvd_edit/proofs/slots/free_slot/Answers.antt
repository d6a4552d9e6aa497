use Rattle.std.proofs.Common.{◌∙◌, sym, ap, not}
use Rattle.std.specs.Prelude.{is_some}
use Rattle.rvd_fact.specs.Program.{cell_at}
use Rattle.rvd_edit.specs.Slots.{slot_key}
use Rattle.rvd_edit.proofs.FirstSlot.{passed, found, none_left}
use Rattle.rvd_edit.proofs.slots.free_slot.Goals as goal

pub returns-then-is_free : goal.returns-then-is_free
returns-then-is_free c =
    let key = ap (λ k. not (is_some (cell_at c.args.program.now k))) c.slot_key.ensures in
    sym (found (λ slot. not (is_some (cell_at c.args.program.now (slot_key c.args.kind c.args.at slot)))) c.loop-slot.slot c.loop-slot-test.true (sym key ∙ sym c.is_free.ensures ∙ c.if-is_free.true)) ∙ c.loop-slot.invariant

pub loop-slot-preserved : goal.loop-slot-preserved
loop-slot-preserved c =
    let key = ap (λ k. not (is_some (cell_at c.args.program.now k))) c.slot_key.ensures in
    sym (passed (λ slot. not (is_some (cell_at c.args.program.now (slot_key c.args.kind c.args.at slot)))) c.loop-slot.slot c.loop-slot-test.true (sym key ∙ sym c.is_free.ensures ∙ c.if-is_free.false)) ∙ c.loop-slot.invariant

pub returns : goal.returns
returns c =
    sym (none_left (λ slot. not (is_some (cell_at c.args.program.now (slot_key c.args.kind c.args.at slot)))) c.loop-slot.slot c.loop-slot-test.false) ∙ c.loop-slot.invariant
