-- Each cell that is kept is queued.
use Rattle.std.proofs.Common.{◌≡◌, Bool, true, false, [], not, ◌&&◌, ◌||◌, refl, sym, ap, ◌∙◌, length, rules}
use Rattle.rvd_ask.specs.declared.asks.Item.{Item}
use Rattle.rvd_ask.specs.Unsettled.{same_analyzer}
use Rattle.rvd_queue.specs.declared.cells.Cell.{Cell}
use Rattle.rvd_queue.specs.Cells.{Contents, contents_of, is_queued, is_kept, items_where, queued_in, kept_in}
use Rattle.rvd_queue.specs.Sets.{with_all, without_analyzer}
use Rattle.rvd_queue.proofs.Members.{Cells, map_in_order}
use Rattle.rvd_queue.proofs.SweptCells.{sweep, swept, swept_items, items_either, items_none, items_without, length-sweep, twice, never, absorbs}
use Rattle.rvd_queue.proofs.sweeps.restore.Goals as goal

pub returns-clause-order : goal.returns-clause-order
returns-clause-order c = map_in_order c.retain.new.self c.retain.ensures.ordered

pub returns-clause-contents : goal.returns-clause-contents
returns-clause-contents c =
    let left : c.retain.new.self.entries ≡ sweep (λ (e : Item × Cell). e.1.queued || e.1.kept) (λ (cell : Cell). record cell { queued = cell.queued || cell.kept }) c.args.cells.now.entries = swept _ (λ (e : Item × Cell). e.1.queued || e.1.kept) (λ (cell : Cell). record cell { queued = cell.queued || cell.kept }) _ (λ i cell b w f called. search rules) c.args.cells.now.entries c.retain.new.self.entries c.retain.ensures.filtered in
    let queued : queued_in c.retain.new.self.entries ≡ with_all (kept_in c.args.cells.now.entries) (queued_in c.args.cells.now.entries) = ap queued_in left ∙ swept_items is_queued (λ c. c.queued || c.kept) _ _ (λ e. twice (e.1.queued || e.1.kept)) c.args.cells.now.entries ∙ items_either c.args.cells.now.entries c.requires in
    let kept : kept_in c.retain.new.self.entries ≡ kept_in c.args.cells.now.entries = ap kept_in left ∙ swept_items is_kept is_kept _ _ (λ e. absorbs e.1.queued e.1.kept) c.args.cells.now.entries in
    λ x. record { queued = queued x; kept = kept x }

pub returns-clause-count : goal.returns-clause-count
returns-clause-count c =
    let left : c.retain.new.self.entries ≡ sweep (λ (e : Item × Cell). e.1.queued || e.1.kept) (λ (cell : Cell). record cell { queued = cell.queued || cell.kept }) c.args.cells.now.entries = swept _ (λ (e : Item × Cell). e.1.queued || e.1.kept) (λ (cell : Cell). record cell { queued = cell.queued || cell.kept }) _ (λ i cell b w f called. search rules) c.args.cells.now.entries c.retain.new.self.entries c.retain.ensures.filtered in
    c.len.ensures.len ∙ ap length left ∙ length-sweep is_queued _ _ (λ e passes. passes) c.args.cells.now.entries ∙ sym (ap (λ (cells : Cells). length (queued_in cells)) left)
