use Rattle.std.proofs.Common.{◌≡◌, filter, take}
use Rattle.rvd_ask.specs.Unsettled.{analyzers}
use Rattle.rvd_machine.specs.Enabled.{is_on}
use Rattle.rvd_engine.specs.Inside.{enabled_of}
use Rattle.rvd_engine.proofs.switches.Switches.list.Given as goal

-- the enabled ones so far
abbrev pub invariant-loop-analyzer : goal.invariant-loop-analyzer
invariant-loop-analyzer l = l.list.items ≡ filter (is_on (enabled_of l.self)) (take l.analyzer-index analyzers)
