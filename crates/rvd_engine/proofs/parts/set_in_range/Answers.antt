use Rattle.std.proofs.Common.{sym}
use Rattle.rvd_program.proofs.Ranges.{ranges_are}
use Rattle.rvd_engine.proofs.parts.set_in_range.Goals as goal

pub returns : goal.returns
returns c = sym (ranges_are c.args.set.now c.ranges-ranges.ensures.ranges)
