use Rattle.std.proofs.Common.{rules}
use Rattle.rvd_fact.proofs.RangeLists.{least_some}
use Rattle.rvd_fact.proofs.ranges.RangeSet.first.Goals as goal

pub returns-in-Some : goal.returns-in-Some
returns-in-Some c = least_some c.args.self.now c.in-Some.range.now (search rules) (search rules)
