use Rattle.std.proofs.Common.{rules}
use Rattle.rvd_fact.proofs.RangeLists.{found}
use Rattle.rvd_fact.proofs.ranges.RangeSet.contains.Goals as goal

pub returns : goal.returns
returns c = search (rules, found)
