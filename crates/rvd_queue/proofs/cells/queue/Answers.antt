-- The item's cell is written, so that it is queued and kept as it was.
use Rattle.std.proofs.Common.{◌≡◌, ◌+◌, refl, sym, ap, ◌∙◌, Some, None, true, false, true≢false, Bool, if◌then◌else◌, not, is_some, length, ℕ}
use Rattle.rvd_queue.specs.declared.cells.Cell.{Cell}
use Rattle.rvd_queue.specs.Cells.{is_queued, is_kept, queued_in}
use Rattle.rvd_queue.proofs.OrderedLists.{added}
use Rattle.rvd_queue.proofs.Members.{by_write, found_is, has_key, with_one, as_before, length-with_one, passes, not_there}
use Rattle.rvd_queue.proofs.cells.queue.Goals as goal

pub returns-in-Some-clause-queued : goal.returns-in-Some-clause-queued
returns-in-Some-clause-queued c = with_one (by_write c.args.cells.now c.get_mut.follows.lender c.args.item.now c.in-Some.cell.now (record { queued = true; kept = c.in-Some.cell.now.kept }) c.requires.order c.in-Some.ensures.value (c.get_mut.follows.holds _)) is_queued refl

pub returns-in-Some-clause-kept : goal.returns-in-Some-clause-kept
returns-in-Some-clause-kept c = as_before (by_write c.args.cells.now c.get_mut.follows.lender c.args.item.now c.in-Some.cell.now (record { queued = true; kept = c.in-Some.cell.now.kept }) c.requires.order c.in-Some.ensures.value (c.get_mut.follows.holds _)) is_kept (sym (ap (passes is_kept) (found_is c.args.cells.now c.args.item.now (Some c.in-Some.cell.now) c.in-Some.ensures.value)))

pub returns-in-Some-clause-count : goal.returns-in-Some-clause-count
returns-in-Some-clause-count c =
    length-with_one (by_write c.args.cells.now c.get_mut.follows.lender c.args.item.now c.in-Some.cell.now (record { queued = true; kept = c.in-Some.cell.now.kept }) c.requires.order c.in-Some.ensures.value (c.get_mut.follows.holds _)) is_queued refl
    ∙ ap (λ o. length (queued_in c.args.cells.now.entries) + added (passes is_queued o)) (found_is c.args.cells.now c.args.item.now (Some c.in-Some.cell.now) c.in-Some.ensures.value)

pub returns-in-None-clause-queued : goal.returns-in-None-clause-queued
returns-in-None-clause-queued c = absurd (not_there c.args.cells.now c.args.item.now c.requires.there c.in-None.ensures.value)
