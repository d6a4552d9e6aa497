-- Each cell that is queued is kept, and the others go.
use Rattle.std.proofs.Common.{◌≡◌, Bool, true, false, [], not, ◌&&◌, ◌||◌, refl, sym, ap, ◌∙◌, length, rules}
use Rattle.rvd_ask.specs.declared.asks.Item.{Item}
use Rattle.rvd_ask.specs.Unsettled.{same_analyzer}
use Rattle.rvd_queue.specs.declared.cells.Cell.{Cell}
use Rattle.rvd_queue.specs.Cells.{Contents, contents_of, is_queued, is_kept, items_where, queued_in, kept_in}
use Rattle.rvd_queue.specs.Sets.{with_all, without_analyzer}
use Rattle.rvd_queue.proofs.Members.{Cells, map_in_order}
use Rattle.rvd_queue.proofs.SweptCells.{sweep, swept, swept_items, items_either, items_none, items_without, length-sweep, twice, never, absorbs}
use Rattle.rvd_queue.proofs.sweeps.keep_queued.Goals as goal

pub returns-clause-order : goal.returns-clause-order
returns-clause-order c = map_in_order c.retain.new.self c.retain.ensures.ordered

pub returns-clause-contents : goal.returns-clause-contents
returns-clause-contents c =
    let left : c.retain.new.self.entries ≡ sweep (λ (e : Item × Cell). e.1.queued) (λ (cell : Cell). record cell { kept = cell.queued }) c.args.cells.now.entries = swept _ (λ (e : Item × Cell). e.1.queued) (λ (cell : Cell). record cell { kept = cell.queued }) _ (λ i cell b w f called. search rules) c.args.cells.now.entries c.retain.new.self.entries c.retain.ensures.filtered in
    let queued : queued_in c.retain.new.self.entries ≡ queued_in c.args.cells.now.entries = ap queued_in left ∙ swept_items is_queued is_queued _ _ (λ e. twice e.1.queued) c.args.cells.now.entries in
    let kept : kept_in c.retain.new.self.entries ≡ queued_in c.args.cells.now.entries = ap kept_in left ∙ swept_items is_kept is_queued _ _ (λ e. twice e.1.queued) c.args.cells.now.entries in
    λ x. record { queued = queued x; kept = kept x }
