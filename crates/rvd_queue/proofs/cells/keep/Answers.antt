-- The item's cell is written, so that it is kept and queued as it was.
use Rattle.std.proofs.Common.{◌≡◌, refl, sym, ap, ◌∙◌, Some, None, true}
use Rattle.rvd_queue.specs.declared.cells.Cell.{Cell}
use Rattle.rvd_queue.specs.Cells.{is_queued, is_kept}
use Rattle.rvd_queue.proofs.Members.{by_write, found_is, with_one, as_before, passes, not_there}
use Rattle.rvd_queue.proofs.cells.keep.Goals as goal

pub returns-in-Some-clause-queued : goal.returns-in-Some-clause-queued
returns-in-Some-clause-queued c = as_before (by_write c.args.cells.now c.get_mut.follows.lender c.args.item.now c.in-Some.cell.now (record { queued = c.in-Some.cell.now.queued; kept = true }) c.requires.order c.in-Some.ensures.value (c.get_mut.follows.holds _)) is_queued (sym (ap (passes is_queued) (found_is c.args.cells.now c.args.item.now (Some c.in-Some.cell.now) c.in-Some.ensures.value)))

pub returns-in-Some-clause-kept : goal.returns-in-Some-clause-kept
returns-in-Some-clause-kept c = with_one (by_write c.args.cells.now c.get_mut.follows.lender c.args.item.now c.in-Some.cell.now (record { queued = c.in-Some.cell.now.queued; kept = true }) c.requires.order c.in-Some.ensures.value (c.get_mut.follows.holds _)) is_kept refl

pub returns-in_default-clause-kept : goal.returns-in_default-clause-kept
returns-in_default-clause-kept c = absurd (not_there c.args.cells.now c.args.item.now c.requires.there c.in_default.ensures.value)
