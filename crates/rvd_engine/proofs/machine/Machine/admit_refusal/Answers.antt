use Rattle.std.proofs.Common.{refl, sym, ◌∙◌}
use Rattle.std.proofs.lemmas.Bool.{false≢true}
use Rattle.rvd_engine.proofs.machine.Machine.admit_refusal.Goals as goal

pub returns-then-not-may_refuse : goal.returns-then-not-may_refuse
returns-then-not-may_refuse c = (refl, λ is. false≢true (sym c.if-not-may_refuse.true ∙ c.may_refuse.ensures.1 is.reply))

pub returns-then-not-is_same_step : goal.returns-then-not-is_same_step
returns-then-not-is_same_step c = (refl, λ is. false≢true (sym c.if-not-is_same_step.true ∙ c.is_same_step.ensures.1 (is.named ∙ sym c.settled_step.ensures)))

pub returns : goal.returns
returns c = record {
  reply = c.may_refuse.ensures.0 c.if-not-may_refuse.false;
  parts = refl;
  named = c.is_same_step.ensures.0 c.if-not-is_same_step.false ∙ c.settled_step.ensures;
  state = c.finish.ensures.state;
}
