use Rattle.std.proofs.Common.{◌≡◌, ◌-◌, ◌≤◌}
use Rattle.std.specs.Option.{option_copied}
use Rattle.rvd_listing.specs.Names.{best_below}
use Rattle.rvd_listing.proofs.names.best_symbol.Given as goal

-- the best symbol of the slots so far
abbrev pub invariant-loop-slot : goal.invariant-loop-slot
invariant-loop-slot l = record { within : l.slot ≤ 64; best : option_copied l.best ≡ best_below l.program l.at l.slot }

abbrev pub decreases-loop-slot : goal.decreases-loop-slot
decreases-loop-slot l = 64 - l.slot
