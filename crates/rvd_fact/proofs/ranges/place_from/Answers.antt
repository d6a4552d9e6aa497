use Rattle.std.proofs.Common.{arith}
use Rattle.rvd_fact.proofs.RangeLists.{below_upto, above_from}
use Rattle.rvd_fact.proofs.ranges.place_from.Goals as goal

pub loop-low-preserved-then-ranges-mid : goal.loop-low-preserved-then-ranges-mid
loop-low-preserved-then-ranges-mid c = record {
  order = omega arith;
  bound = c.loop-low.invariant.bound;
  below = below_upto c.args.at _ c.args.ranges.now c.requires.ranges (omega (arith, c.loop-low.invariant.bound)) c.if-ranges-mid.true;
  above = c.loop-low.invariant.above;
}

pub loop-low-preserved : goal.loop-low-preserved
loop-low-preserved c = record {
  order = omega arith;
  bound = omega (arith, c.loop-low.invariant.bound);
  below = c.loop-low.invariant.below;
  above = above_from c.args.at _ c.args.ranges.now c.requires.ranges (omega (arith, c.loop-low.invariant.bound)) c.if-ranges-mid.false;
}
