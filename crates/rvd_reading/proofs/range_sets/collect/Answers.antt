use Rattle.rvd_fact.proofs.RangeLists.{range_at}
use Rattle.rvd_reading.proofs.SetsBack.{are_ranges, one_more}
use Rattle.rvd_reading.proofs.range_sets.collect.Goals as goal

pub add-requires : goal.add-requires
add-requires c = (range_at 0 c.loop-range.range-index (0, 0) c.args.ranges.now (are_ranges c.args.ranges.now c.requires) c.loop-range-test.true).1

pub loop-range-preserved : goal.loop-range-preserved
loop-range-preserved c =
    one_more c.args.ranges.now c.loop-range.range-index c.loop-range.set c.add.new.self (are_ranges c.args.ranges.now c.requires) c.loop-range-test.true c.loop-range.invariant c.in_ok-add.ensures.ok
