use Rattle.std.proofs.Common.{rules}
use Rattle.rvd_fact.proofs.RangeCuts.{without_all}
use Rattle.rvd_fact.proofs.ranges.RangeSet.remove.Goals as goal

pub invariant_of-self : goal.invariant_of-self
invariant_of-self c = (without_all c.args.first c.args.last c.loop-start.start-index c.args.self.now _ _ c.requires (search rules) (search rules) c.loop-start.invariant (search rules)).ranges

pub returns-clause-ok : goal.returns-clause-ok
returns-clause-ok c = without_all c.args.first c.args.last c.loop-start.start-index c.args.self.now _ _ c.requires (search rules) (search rules) c.loop-start.invariant (search rules)
