use Rattle.std.proofs.Common.{◌≡◌, drop}
use Rattle.std.specs.List.{list_all}
use Rattle.rvd_event.specs.Verdicts.{has_forms}
use Rattle.rvd_line_reading.proofs.parts.have_forms.Given as goal

-- what is left decides
abbrev pub invariant-loop-verdict : goal.invariant-loop-verdict
invariant-loop-verdict l = list_all has_forms (drop l.verdict-index l.list) ≡ list_all has_forms l.list
