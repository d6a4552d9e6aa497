use Rattle.std.proofs.Common.{◌≡◌, ◌++◌, map, take}
use Rattle.rvd_ask.specs.Wake.{item}
use Rattle.rvd_wake.proofs.ordering.add_items.Given as goal

abbrev pub invariant-loop-at : goal.invariant-loop-at
invariant-loop-at l = l.items.items ≡ l.initial.items.items ++ map (item l.analyzer) (take l.at-index l.places)
