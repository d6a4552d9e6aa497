-- The chain gives the first queued cells of the range.
use Rattle.std.proofs.Common.{◌≡◌, ◌∙◌, rules, tests, take, List}
use Rattle.std.proofs.lemmas.Iterator.{YieldsList-from_map, YieldsList-from_take, items_from_collect}
use Rattle.std.proofs.lemmas.Iterator.Consumers.{YieldsList-at, YieldsList-from_filter, YieldsList-from_rest}
use Rattle.std.proofs.lemmas.Result.{IfOk-weaker}
use Rattle.std.specs.BTreeMap.Range.{entries_between}
use Rattle.std.specs.declared.ops.Bound.TheVariants.{Included, Unbounded}
use Rattle.rvd_ask.specs.declared.asks.Item.{Item}
use Rattle.rvd_ask.specs.contracts.asks.ItemOrd.TheImpl.{cmp-value}
use Rattle.rvd_queue.specs.declared.cells.Cell.{Cell}
use Rattle.rvd_queue.specs.Cells.{is_queued, queued_in}
use Rattle.rvd_queue.proofs.FirstItems.{least_is}
use Rattle.rvd_queue.proofs.reads.least.Goals as goal

pub returns : goal.returns
returns c = IfOk-weaker c.collect.result _ _ (λ list is. is ∙ least_is c.args.start c.args.n c.args.cells.now.entries c.requires)
    (items_from_collect _ c.collect.ensures.ran (YieldsList-from_map _ (λ (e : Item × Cell). e.0) (YieldsList-at c.map.ensures.source (YieldsList-from_take c.args.n (YieldsList-at c.take.ensures.source (YieldsList-from_filter _ (λ (e : Item × Cell). e.1.queued) (YieldsList-at c.filter.ensures.source (YieldsList-from_rest (entries_between cmp-value.it (Included c.args.start) Unbounded c.args.cells.now.entries) (c.range.ensures.between tt))) c.filter.ensures.closure (λ x b q k. search (rules, tests)))) c.take.ensures.count)) c.map.ensures.closure (λ x r q k. search rules)))
