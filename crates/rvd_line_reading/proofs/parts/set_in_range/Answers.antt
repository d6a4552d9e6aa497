use Rattle.rvd_line_reading.proofs.Types.{ranges_are}
use Rattle.rvd_line_reading.proofs.parts.set_in_range.Goals as goal

pub returns : goal.returns
returns c = ranges_are c.args.set.now c.ranges-ranges.ensures.ranges
