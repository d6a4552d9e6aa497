use Rattle.rvd_fact.proofs.RangeGaps.{none_added}
use Rattle.rvd_fact.proofs.ranges.RangeSet.add_up_to.Goals as goal

pub returns-else-first-end : goal.returns-else-first-end
returns-else-first-end c = none_added c.args.self.now c.args.first c.args.end c.requires c.if-first-end.false
