-- An item that has no cell gets one that is in neither set.
use Rattle.std.proofs.Common.{◌≡◌, refl, sym, ap, ◌∙◌, Some, None, true, false, is_some, not}
use Rattle.std.proofs.lemmas.Bool.{not-true, not-false}
use Rattle.rvd_queue.specs.declared.cells.Cell.{Cell}
use Rattle.rvd_queue.specs.Cells.{is_queued, is_kept}
use Rattle.rvd_queue.proofs.Members.{by_update, none_found, one_found, has_cell, keeps_cells, map_in_order, blank, passes}
use Rattle.rvd_queue.proofs.cells.make_cell.Goals as goal

pub returns-in_ok-insert-clause-order : goal.returns-in_ok-insert-clause-order
returns-in_ok-insert-clause-order c = map_in_order c.insert.new.self c.insert.ensures.ordered

pub returns-in_ok-insert-clause-contents : goal.returns-in_ok-insert-clause-contents
returns-in_ok-insert-clause-contents c = blank (by_update c.args.cells.now c.insert.new.self c.args.item.now (Some (record { queued = false; kept = false })) c.requires c.insert.ensures.ordered c.in_ok-insert.ensures.updates) (sym (ap (passes is_queued) (none_found c.args.cells.now c.args.item.now c.if-not-contains_key.ensures))) (sym (ap (passes is_kept) (none_found c.args.cells.now c.args.item.now c.if-not-contains_key.ensures)))

pub returns-in_ok-insert-clause-there : goal.returns-in_ok-insert-clause-there
returns-in_ok-insert-clause-there c = has_cell (by_update c.args.cells.now c.insert.new.self c.args.item.now (Some (record { queued = false; kept = false })) c.requires c.insert.ensures.ordered c.in_ok-insert.ensures.updates)

pub returns-in_ok-insert-clause-stay : goal.returns-in_ok-insert-clause-stay
returns-in_ok-insert-clause-stay c = keeps_cells (by_update c.args.cells.now c.insert.new.self c.args.item.now (Some (record { queued = false; kept = false })) c.requires c.insert.ensures.ordered c.in_ok-insert.ensures.updates)

pub returns-else-not-contains_key-clause-there : goal.returns-else-not-contains_key-clause-there
returns-else-not-contains_key-clause-there c = one_found c.args.cells.now c.args.item.now c.if-not-contains_key.ensures
