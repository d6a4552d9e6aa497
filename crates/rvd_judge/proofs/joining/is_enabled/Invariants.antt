use Rattle.std.proofs.Common.{◌≡◌, drop}
use Rattle.std.specs.List.{list_any}
use Rattle.rvd_ask.specs.Unsettled.{same_analyzer}
use Rattle.rvd_judge.proofs.joining.is_enabled.Given as goal

abbrev pub invariant-loop-other : goal.invariant-loop-other
invariant-loop-other l = list_any (same_analyzer l.analyzer) (drop l.other-index l.enabled) ≡ list_any (same_analyzer l.analyzer) l.enabled
