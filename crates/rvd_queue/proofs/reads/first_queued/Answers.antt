-- The search finds the first queued cell of the range.
use Rattle.std.proofs.Common.{◌≡◌, ◌∙◌, Option, Some, None, sym, ap, rules, tests, Bor}
use Rattle.std.proofs.lemmas.Iterator.Search.{find_from_yields_List}
use Rattle.std.proofs.lemmas.Iterator.Consumers.{YieldsList-from_rest}
use Rattle.std.specs.BTreeMap.Range.{entries_between}
use Rattle.std.specs.declared.ops.Bound.TheVariants.{Included, Unbounded}
use Rattle.std.specs.Map.Iter.{deref_pair}
use Rattle.std.specs.Option.{option_map}
use Rattle.rvd_ask.specs.declared.asks.Item.{Item}
use Rattle.rvd_ask.specs.contracts.asks.ItemOrd.TheImpl.{cmp-value}
use Rattle.rvd_queue.specs.declared.cells.Cell.{Cell}
use Rattle.rvd_queue.proofs.FirstItems.{first_is}
use Rattle.rvd_queue.proofs.reads.first_queued.Goals as goal

pub returns-in_err-item : goal.returns-in_err-item
returns-in_err-item c = c.from_residual.ensures ∙ sym (ap (λ (r : Option (Bor Item × Bor Cell)). option_map (λ (e : Item × Cell). e.0) (option_map deref_pair r)) c.in_err-item.was) ∙ ap (option_map (λ (e : Item × Cell). e.0)) (find_from_yields_List (λ (e : Item × Cell). e.1.queued) _ _ c.find.result c.find.ensures.ran (YieldsList-from_rest (entries_between cmp-value.it (Included c.args.start) Unbounded c.args.cells.now.entries) (c.range.ensures.between tt)) (λ x b q k. search (rules, tests))) ∙ first_is c.args.start c.args.cells.now.entries c.requires

pub returns : goal.returns
returns c = sym (ap (λ (r : Option (Bor Item × Bor Cell)). option_map (λ (e : Item × Cell). e.0) (option_map deref_pair r)) c.in_ok-item.was) ∙ ap (option_map (λ (e : Item × Cell). e.0)) (find_from_yields_List (λ (e : Item × Cell). e.1.queued) _ _ c.find.result c.find.ensures.ran (YieldsList-from_rest (entries_between cmp-value.it (Included c.args.start) Unbounded c.args.cells.now.entries) (c.range.ensures.between tt)) (λ x b q k. search (rules, tests))) ∙ first_is c.args.start c.args.cells.now.entries c.requires
