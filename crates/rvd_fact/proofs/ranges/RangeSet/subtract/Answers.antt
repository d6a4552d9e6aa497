use Rattle.std.proofs.Common.{arith, rules}
use Rattle.rvd_fact.proofs.RangeLists.{range_at}
use Rattle.rvd_fact.proofs.RangeGaps.{less_more}
use Rattle.rvd_fact.proofs.ranges.RangeSet.subtract.Goals as goal

pub add_gaps-requires-clause-order : goal.add_gaps-requires-clause-order
add_gaps-requires-clause-order c = (range_at 0 c.loop-first.first-index (0, 0) c.deref-first-items.result.now (search rules) (omega arith)).1

pub loop-first-preserved : goal.loop-first-preserved
loop-first-preserved c = less_more c.args.self.now c.deref-first-items.result.now c.args.other.now c.loop-first.rest c.add_gaps.new.out c.loop-first.first-index (search rules) c.loop-first-test.true c.loop-first.invariant c.in_ok-add_gaps.ensures
