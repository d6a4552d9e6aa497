use Rattle.std.proofs.Common.{sym, ◌∙◌}
use Rattle.rvd_admission.proofs.Outlooks.{off_stands_not}
use Rattle.rvd_admission.proofs.looks.after_turn_off.Goals as goal

pub returns-then-not-stands : goal.returns-then-not-stands
returns-then-not-stands c = λ step. off_stands_not c.args.machine.now c.args.analyzer step (sym c.stands.ensures ∙ c.if-not-stands.true)
