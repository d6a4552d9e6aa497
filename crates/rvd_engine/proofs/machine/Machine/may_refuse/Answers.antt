use Rattle.std.proofs.Common.{sym}
use Rattle.rvd_engine.proofs.OfferReplies.{cancelled_may, may_cancelled, may_misfit, misfit_may}
use Rattle.rvd_engine.proofs.machine.Machine.may_refuse.Goals as goal

pub returns-in-None : goal.returns-in-None
returns-in-None c = (
  λ t. cancelled_may c.args.self.now c.args.ticket c.args.refusal (sym c.in-None.ensures) (c.is_cancelled.ensures.0 t),
  λ may. c.is_cancelled.ensures.1 (may_cancelled c.args.self.now c.args.ticket c.args.refusal (sym c.in-None.ensures) may),
)

pub returns-in-Some : goal.returns-in-Some
returns-in-Some c = (
  λ t. misfit_may c.args.self.now c.args.ticket c.in-Some.items.now _ c.args.refusal (sym c.in-Some.ensures) (c.is_misfit.ensures.0 t),
  λ may. c.is_misfit.ensures.1 (may_misfit c.args.self.now c.args.ticket c.in-Some.items.now _ c.args.refusal (sym c.in-Some.ensures) may),
)
