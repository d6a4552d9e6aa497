-- The forms of the answers in a verdict. Use `has_forms` as the premise of whatever is said of every verdict.
use Rattle.std.specs.Prelude.{Bool, true, ◌&&◌}
use Rattle.rvd_ask.specs.Forms.{has_form}
use Rattle.rvd_event.specs.declared.verdicts.Verdict.{Verdict}
use Rattle.rvd_event.specs.declared.verdicts.Verdict.TheVariants.{Stale, Foreign}

-- whether each answer of a verdict has the form of its ask
abbrev pub has_forms : Verdict → Bool
has_forms (Stale ask was now) = has_form ask was && has_form ask now
has_forms (Foreign ask said was) = has_form ask said && has_form ask was
has_forms v = true
