use Rattle.std.proofs.Common.{List, arith}
use Rattle.rvd_ask.specs.declared.asks.Item.{Item}
use Rattle.rvd_engine.specs.Inside.{enabled_of}
use Rattle.rvd_engine.proofs.CandidateLists.{all_listed, listed_on, listed_off, parts_all}
use Rattle.rvd_engine.proofs.analysis.all_candidates.Goals as goal
use Rattle.rvd_engine.proofs.analysis.all_candidates.Goals.{then-is_on+in_ok-items+in_ok-append, else-is_on}

pub loop-analyzer-preserved : goal.loop-analyzer-preserved
loop-analyzer-preserved c =
    elim c.if-is_on.branch [
      | then-is_on+in_ok-items+in_ok-append w ↦ listed_on (enabled_of c.args.enabled) c.args.program.now c.loop-analyzer.analyzer-index c.is_on.result c.loop-analyzer.list.items w.in_ok-items.items.items c.if-is_on.list.items c.loop-analyzer-test.true c.loop-analyzer.invariant c.is_on.ensures w.if-is_on.true w.in_ok-items.ensures (cc w.in_ok-append.ensures.items)
      | else-is_on w ↦ listed_off (enabled_of c.args.enabled) c.args.program.now c.loop-analyzer.analyzer-index c.is_on.result c.loop-analyzer.list.items c.if-is_on.list.items c.loop-analyzer-test.true c.loop-analyzer.invariant c.is_on.ensures w.if-is_on.false (cc)
    ]

pub returns : goal.returns
returns c = λ (queue : List Item) ordered. all_listed c.listing_law.ensures c.set_law.ensures (enabled_of c.args.enabled) c.args.program.now c.loop-analyzer.list.items queue
    (parts_all (enabled_of c.args.enabled) c.args.program.now c.loop-analyzer.list.items c.loop-analyzer.analyzer-index c.loop-analyzer.invariant (omega arith)) ordered
