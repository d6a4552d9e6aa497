use Rattle.std.proofs.Common.{◌++◌, List, Vec, Global, ap, sym, ◌∙◌, arith, add-one}
use Rattle.rvd_ask.specs.declared.asks.Item.{Item}
use Rattle.rvd_engine.proofs.JobLists.{items_all, items_more, items_past, items_to}
use Rattle.rvd_engine.proofs.entries.taken_items.Goals as goal
use Rattle.rvd_engine.proofs.entries.taken_items.Goals.{in-Some+in_ok-extend_from_slice, in_default}

pub returns : goal.returns
returns c = c.loop-place.invariant ∙ items_all c.loop-place.place c.args.taken.now (omega (arith, c.loop-place-test.false, c.len-place-end.ensures))

pub loop-place-preserved : goal.loop-place-preserved
loop-place-preserved c = elim c.match-at.branch [
  | in-Some+in_ok-extend_from_slice w ↦
      ap (λ (v : Vec Item Global). v.items) w.list-is
      ∙ w.in_ok-extend_from_slice.ensures.items
      ∙ ap (λ (xs : List Item). c.loop-place.list.items ++ xs) w.list.ensures
      ∙ ap (λ (xs : List Item). xs ++ w.in-Some.items.now) c.loop-place.invariant
      ∙ sym (items_more c.loop-place.place c.args.taken.now w.in-Some.field-0-0 w.in-Some.items.now w.in-Some.field-0-2.now (sym w.in-Some.ensures))
      ∙ ap (λ k. items_to k c.args.taken.now) (sym (add-one c.loop-place.place))
  | in_default w ↦
      ap (λ (v : Vec Item Global). v.items) w.list-is
      ∙ c.loop-place.invariant
      ∙ sym (items_past c.loop-place.place c.args.taken.now (sym w.in_default.ensures))
      ∙ ap (λ k. items_to k c.args.taken.now) (sym (add-one c.loop-place.place))
]
