use Rattle.rvd_gen.specs.Code.{function_bytes}
use Rattle.rvd_gen.proofs.Ranges.{one_more}
use Rattle.rvd_gen.proofs.code.push_code.Goals as goal

pub loop-i-preserved : goal.loop-i-preserved
loop-i-preserved c = one_more (function_bytes c.args.n) c.loop-i.i c.args.out.now.items c.loop-i.out.items _ c.loop-i.invariant c.in_ok-push_function.ensures
