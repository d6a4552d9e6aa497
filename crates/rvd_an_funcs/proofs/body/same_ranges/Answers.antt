use Rattle.std.proofs.Common.{◌∙◌}
use Rattle.rvd_an_funcs.proofs.RangesOf.{same_ranges-pointwise}
use Rattle.rvd_an_funcs.proofs.body.same_ranges.Goals as goal

pub returns : goal.returns
returns c = c.eq.ensures ∙ same_ranges-pointwise c.args.own.now c.args.ranges.now
