use Rattle.std.proofs.Common.{arith}
use Rattle.std.proofs.lemmas.Grind.{common_steps}
use Rattle.std.proofs.lemmas.List.Elements.{filter_map-append}
use Rattle.rvd_an_funcs.proofs.ways.add_ways.Goals as goal

pub loop-found-preserved : goal.loop-found-preserved
loop-found-preserved g c = grind (arith, common_steps, filter_map-append)
