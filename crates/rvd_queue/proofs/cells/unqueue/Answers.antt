-- An item that is kept has its cell written, and else its cell goes.
use Rattle.std.proofs.Common.{◌≡◌, refl, sym, ap, ◌∙◌, Some, None, true, false}
use Rattle.std.proofs.lemmas.Bool.{not-true, not-false}
use Rattle.rvd_queue.specs.declared.cells.Cell.{Cell}
use Rattle.rvd_queue.specs.Cells.{is_queued, is_kept}
use Rattle.rvd_queue.proofs.Members.{by_update, by_write, found_is, map_in_order, unchanged, unqueued, without_one, cell_if_kept}
use Rattle.rvd_queue.proofs.cells.unqueue.Goals as goal

pub returns-in-None-clause-queued : goal.returns-in-None-clause-queued
returns-in-None-clause-queued c = without_one (unchanged c.args.cells.now.entries c.args.item.now None c.requires (found_is c.args.cells.now c.args.item.now None (sym c.in-None.is ∙ c.copied.ensures ∙ c.get.ensures.value))) is_queued refl

pub returns-then-not-cell-clause-order : goal.returns-then-not-cell-clause-order
returns-then-not-cell-clause-order c = map_in_order c.remove.new.self c.remove.ensures.ordered

pub returns-then-not-cell-clause-queued : goal.returns-then-not-cell-clause-queued
returns-then-not-cell-clause-queued c = (unqueued (by_update c.args.cells.now c.remove.new.self c.args.item.now None c.requires c.remove.ensures.ordered c.remove.ensures.updates) c.in-Some.cell (found_is c.args.cells.now c.args.item.now (Some c.in-Some.cell) (sym c.in-Some.is ∙ c.copied.ensures ∙ c.get.ensures.value)) refl (sym (not-true c.in-Some.cell.kept c.if-not-cell.true))).queued

pub returns-then-not-cell-clause-kept : goal.returns-then-not-cell-clause-kept
returns-then-not-cell-clause-kept c = (unqueued (by_update c.args.cells.now c.remove.new.self c.args.item.now None c.requires c.remove.ensures.ordered c.remove.ensures.updates) c.in-Some.cell (found_is c.args.cells.now c.args.item.now (Some c.in-Some.cell) (sym c.in-Some.is ∙ c.copied.ensures ∙ c.get.ensures.value)) refl (sym (not-true c.in-Some.cell.kept c.if-not-cell.true))).kept

pub returns-then-not-cell-clause-count : goal.returns-then-not-cell-clause-count
returns-then-not-cell-clause-count c = (unqueued (by_update c.args.cells.now c.remove.new.self c.args.item.now None c.requires c.remove.ensures.ordered c.remove.ensures.updates) c.in-Some.cell (found_is c.args.cells.now c.args.item.now (Some c.in-Some.cell) (sym c.in-Some.is ∙ c.copied.ensures ∙ c.get.ensures.value)) refl (sym (not-true c.in-Some.cell.kept c.if-not-cell.true))).count

pub returns-in-Some-get_mut-clause-queued : goal.returns-in-Some-get_mut-clause-queued
returns-in-Some-get_mut-clause-queued c = (unqueued (by_write c.args.cells.now c.get_mut.follows.lender c.args.item.now c.in-Some-get_mut.place.now (record { queued = false; kept = c.in-Some.cell.kept }) c.requires c.in-Some-get_mut.ensures.value (c.get_mut.follows.holds _)) c.in-Some.cell (found_is c.args.cells.now c.args.item.now (Some c.in-Some.cell) (sym c.in-Some.is ∙ c.copied.ensures ∙ c.get.ensures.value)) refl refl).queued

pub returns-in-Some-get_mut-clause-kept : goal.returns-in-Some-get_mut-clause-kept
returns-in-Some-get_mut-clause-kept c = (unqueued (by_write c.args.cells.now c.get_mut.follows.lender c.args.item.now c.in-Some-get_mut.place.now (record { queued = false; kept = c.in-Some.cell.kept }) c.requires c.in-Some-get_mut.ensures.value (c.get_mut.follows.holds _)) c.in-Some.cell (found_is c.args.cells.now c.args.item.now (Some c.in-Some.cell) (sym c.in-Some.is ∙ c.copied.ensures ∙ c.get.ensures.value)) refl refl).kept

pub returns-in-Some-get_mut-clause-count : goal.returns-in-Some-get_mut-clause-count
returns-in-Some-get_mut-clause-count c = (unqueued (by_write c.args.cells.now c.get_mut.follows.lender c.args.item.now c.in-Some-get_mut.place.now (record { queued = false; kept = c.in-Some.cell.kept }) c.requires c.in-Some-get_mut.ensures.value (c.get_mut.follows.holds _)) c.in-Some.cell (found_is c.args.cells.now c.args.item.now (Some c.in-Some.cell) (sym c.in-Some.is ∙ c.copied.ensures ∙ c.get.ensures.value)) refl refl).count

pub returns-in-None-clause-cell : goal.returns-in-None-clause-cell
returns-in-None-clause-cell c = cell_if_kept (unchanged c.args.cells.now.entries c.args.item.now None c.requires (found_is c.args.cells.now c.args.item.now None (sym c.in-None.is ∙ c.copied.ensures ∙ c.get.ensures.value))) refl

pub returns-then-not-cell-clause-cell : goal.returns-then-not-cell-clause-cell
returns-then-not-cell-clause-cell c = cell_if_kept (by_update c.args.cells.now c.remove.new.self c.args.item.now None c.requires c.remove.ensures.ordered c.remove.ensures.updates) refl

pub returns-in-Some-get_mut-clause-cell : goal.returns-in-Some-get_mut-clause-cell
returns-in-Some-get_mut-clause-cell c = cell_if_kept (by_write c.args.cells.now c.get_mut.follows.lender c.args.item.now c.in-Some-get_mut.place.now (record { queued = false; kept = c.in-Some.cell.kept }) c.requires c.in-Some-get_mut.ensures.value (c.get_mut.follows.holds _)) (sym (not-false c.in-Some.cell.kept c.if-not-cell.false))
