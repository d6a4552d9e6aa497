use Rattle.std.proofs.Common.{◌≡◌, ◌++◌, take}
use Rattle.std.specs.Prelude.{filter_map}
use Rattle.rvd_ask.specs.Reach.{inner_target}
use Rattle.rvd_an_funcs.proofs.ways.add_ways.Given as goal

-- what was there, and the targets so far
abbrev pub invariant-loop-found : goal.invariant-loop-found
invariant-loop-found g l = l.ways.items ≡ l.initial.ways.items ++ filter_map inner_target (take l.found-index l.found-items)
