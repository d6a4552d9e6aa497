use Rattle.std.proofs.Common.{rules}
use Rattle.rvd_fact.proofs.RangeEquality.{only_list}
use Rattle.rvd_fact.proofs.ranges.RangeSet.ranges.Goals as goal

pub returns-clause-only : goal.returns-clause-only
returns-clause-only c = only_list c.args.self.now (search rules)
