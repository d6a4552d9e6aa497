use Rattle.rvd_gen.specs.Strings.{string}
use Rattle.rvd_gen.proofs.Ranges.{one_more}
use Rattle.rvd_gen.proofs.strings.push_strings.Goals as goal

pub loop-i-preserved : goal.loop-i-preserved
loop-i-preserved c = one_more string c.loop-i.i c.args.out.now.items c.loop-i.out.items _ c.loop-i.invariant c.in_ok-push_string.ensures
