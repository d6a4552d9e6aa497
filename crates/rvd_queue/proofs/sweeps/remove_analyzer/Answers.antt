-- The cells of the analyzer go, and the others stay.
use Rattle.std.proofs.Common.{◌≡◌, Bool, true, false, [], not, ◌&&◌, ◌||◌, refl, sym, ap, ◌∙◌, length, rules}
use Rattle.rvd_ask.specs.declared.asks.Item.{Item}
use Rattle.rvd_ask.specs.Unsettled.{same_analyzer}
use Rattle.rvd_queue.specs.declared.cells.Cell.{Cell}
use Rattle.rvd_queue.specs.Cells.{Contents, contents_of, is_queued, is_kept, items_where, queued_in, kept_in}
use Rattle.rvd_queue.specs.Sets.{with_all, without_analyzer}
use Rattle.rvd_queue.proofs.Members.{Cells, map_in_order}
use Rattle.rvd_queue.proofs.SweptCells.{sweep, swept, swept_items, items_either, items_none, items_without, length-sweep, twice, never, absorbs}
use Rattle.rvd_queue.proofs.sweeps.remove_analyzer.Goals as goal

pub returns-clause-order : goal.returns-clause-order
returns-clause-order c = map_in_order c.retain.new.self c.retain.ensures.ordered

pub returns-clause-contents : goal.returns-clause-contents
returns-clause-contents c =
    let left : c.retain.new.self.entries ≡ sweep (λ (e : Item × Cell). not (same_analyzer c.args.analyzer e.0.analyzer)) (λ (cell : Cell). cell) c.args.cells.now.entries = swept _ (λ (e : Item × Cell). not (same_analyzer c.args.analyzer e.0.analyzer)) (λ (cell : Cell). cell) _ (λ i cell b w f called. search rules) c.args.cells.now.entries c.retain.new.self.entries c.retain.ensures.filtered in
    let queued : queued_in c.retain.new.self.entries ≡ without_analyzer c.args.analyzer (queued_in c.args.cells.now.entries) = ap queued_in left ∙ items_without c.args.analyzer is_queued c.args.cells.now.entries in
    let kept : kept_in c.retain.new.self.entries ≡ without_analyzer c.args.analyzer (kept_in c.args.cells.now.entries) = ap kept_in left ∙ items_without c.args.analyzer is_kept c.args.cells.now.entries in
    λ x. record { queued = queued x; kept = kept x }
