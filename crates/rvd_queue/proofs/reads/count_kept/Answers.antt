-- The chain gives the kept cells.
use Rattle.std.proofs.Common.{◌∙◌, rules, tests}
use Rattle.std.proofs.lemmas.Iterator.Consumers.{YieldsList-at, YieldsList-from_filter, YieldsList-from_rest, count_from_yields_List}
use Rattle.std.specs.BTreeMap.{values}
use Rattle.rvd_queue.specs.Cells.{is_kept}
use Rattle.rvd_queue.proofs.FirstItems.{count_where}
use Rattle.rvd_queue.proofs.reads.count_kept.Goals as goal

pub returns : goal.returns
returns c = count_from_yields_List c.filter.result c.count.result c.count.ensures.ran (YieldsList-from_filter _ is_kept (YieldsList-at c.filter.ensures.source (YieldsList-from_rest (values c.args.cells.now) c.values.ensures.rest)) c.filter.ensures.closure (λ x b q k. search (rules, tests))) ∙ count_where is_kept c.args.cells.now.entries
