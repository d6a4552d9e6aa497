use Rattle.std.proofs.Common.{◌<◌, refl, sym, ap, ◌∙◌, subst}
use Rattle.std.proofs.lemmas.Bool.{false≢true}
use Rattle.rvd_machine.specs.Moves.{settled, settled_step}
use Rattle.rvd_machine.specs.State.{State}
use Rattle.rvd_machine.specs.Steps.{counted, max_entries}
use Rattle.rvd_engine.proofs.OfferReplies.{count_stays}
use Rattle.rvd_engine.proofs.machine.Machine.admit_outcome.Goals as goal

pub returns-then-not-is_same_step-clause-ok : goal.returns-then-not-is_same_step-clause-ok
returns-then-not-is_same_step-clause-ok c =
    (refl, λ is. false≢true (sym c.if-not-is_same_step.true ∙ c.is_same_step.ensures.1 (is.named ∙ ap settled_step (c.requires.checked.state c.args.actor) ∙ c.settled_by.ensures c.args.actor)))

pub finish-requires : goal.finish-requires
finish-requires c =
    subst (λ n. n < max_entries) (sym (ap (λ (t : State). t.count) c.in_ok-take_in.ensures.ok ∙ count_stays c.args.self.now c.args.actor c.args.ticket c.args.outcome)) c.requires.ready.few

pub returns-clause-ok : goal.returns-clause-ok
returns-clause-ok c = record {
  reply = c.requires.checked.legal c.args.actor;
  parts = c.verdicts_in_range.ensures;
  named = c.is_same_step.ensures.0 c.if-not-is_same_step.false ∙ sym (c.settled_by.ensures c.args.actor) ∙ sym (ap settled_step (c.requires.checked.state c.args.actor));
  state = c.finish.ensures.state ∙ ap (λ (t : State). settled (counted t)) (c.in_ok-take_in.ensures.ok ∙ sym (c.requires.checked.state c.args.actor));
}
