use Rattle.rvd_fact.proofs.RangeLists.{are_ranges_test}
use Rattle.rvd_script.proofs.range_lines.some_ranges.Goals as goal

pub returns-then-is_empty-clause-legal : goal.returns-then-is_empty-clause-legal
returns-then-is_empty-clause-legal c = are_ranges_test 0 c.loop-count.set c.loop-count.invariant.ranges

pub returns-then-is_empty-2-clause-legal : goal.returns-then-is_empty-2-clause-legal
returns-then-is_empty-2-clause-legal c = are_ranges_test 0 c.loop-count.set c.loop-count.invariant.ranges
