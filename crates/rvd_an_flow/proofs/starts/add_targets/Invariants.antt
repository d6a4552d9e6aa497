use Rattle.std.proofs.Common.{◌≡◌, ◌++◌, take}
use Rattle.std.specs.Prelude.{filter_map}
use Rattle.rvd_ask.specs.Flow.{flow_target}
use Rattle.rvd_an_flow.proofs.starts.add_targets.Given as goal

-- the targets so far
abbrev pub invariant-loop-reference : goal.invariant-loop-reference
invariant-loop-reference l = l.starts.items ≡ l.fn.starts.items ++ filter_map flow_target (take l.reference-index l.refs)
