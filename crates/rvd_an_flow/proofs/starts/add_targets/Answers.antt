use Rattle.std.proofs.Common.{arith}
use Rattle.std.proofs.lemmas.Grind.{common_steps}
use Rattle.std.proofs.lemmas.List.Elements.{filter_map-append}
use Rattle.rvd_an_flow.proofs.starts.add_targets.Goals as goal

pub loop-reference-preserved : goal.loop-reference-preserved
loop-reference-preserved c = grind (arith, common_steps, filter_map-append)
