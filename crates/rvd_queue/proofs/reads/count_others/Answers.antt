-- The chain gives the cells of queued items of other analyzers.
use Rattle.std.proofs.Common.{◌∙◌, rules, tests}
use Rattle.std.proofs.lemmas.Iterator.Consumers.{YieldsList-at, YieldsList-from_filter, YieldsList-from_rest, count_from_yields_List}
use Rattle.rvd_queue.proofs.FirstItems.{is_other, others_are}
use Rattle.rvd_queue.proofs.reads.count_others.Goals as goal

pub returns : goal.returns
returns c = count_from_yields_List c.filter.result c.count.result c.count.ensures.ran (YieldsList-from_filter _ (is_other c.args.analyzer) (YieldsList-at c.filter.ensures.source (YieldsList-from_rest c.args.cells.now.entries c.iter.ensures.rest)) c.filter.ensures.closure (λ x b q k. search (rules, tests))) ∙ others_are c.args.analyzer c.args.cells.now.entries
