use Rattle.rvd_program.proofs.Ranges.{ranges_are}
use Rattle.rvd_program.proofs.suiting.is_range_set.Goals as goal

pub returns : goal.returns
returns c = ranges_are c.args.set.now c.ranges-ranges.ensures.ranges
