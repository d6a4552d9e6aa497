use Rattle.std.proofs.Common.{◌≡◌, true, take}
use Rattle.std.specs.List.{list_all}
use Rattle.rvd_machine.specs.Ranges.{is_verdict}
use Rattle.rvd_engine.proofs.parts.verdicts_in_range.Given as goal

abbrev pub invariant-loop-verdict : goal.invariant-loop-verdict
invariant-loop-verdict l = list_all is_verdict (take l.verdict-index l.list) ≡ true
