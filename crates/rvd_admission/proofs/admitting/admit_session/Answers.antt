use Rattle.std.proofs.Common.{refl, sym, ap, ◌∙◌}
use Rattle.std.proofs.lemmas.Bool.{false≢true, not-true}
use Rattle.rvd_engine.specs.Performed.{is_plain}
use Rattle.rvd_admission.proofs.SessionReplies.{not_true, one_reply, performed_so, waits_on}
use Rattle.rvd_admission.proofs.admitting.admit_session.Goals as goal

pub returns-then-goes_on-clause-ok : goal.returns-then-goes_on-clause-ok
returns-then-goes_on-clause-ok c =
    (refl, λ is. waits_on c.args.machine.now c.args.actor c.args.event.now c.args.reply.now c.requires.session (not-true _ (sym c.goes_on.ensures ∙ c.if-goes_on.true)) is.reply)

pub reply_to-requires : goal.reply_to-requires
reply_to-requires c = not_true _ (sym c.goes_on.ensures ∙ c.if-goes_on.false)

pub returns-then-not-is_same_reply-clause-ok : goal.returns-then-not-is_same_reply-clause-ok
returns-then-not-is_same_reply-clause-ok c =
    (refl, λ is. false≢true (sym c.if-not-is_same_reply.true ∙ c.is_same_reply.ensures.1 (one_reply c.args.machine.now c.args.actor c.args.event.now c.in_ok-said.said c.args.reply.now c.requires.session c.in_ok-said.ensures.said is.reply)))

pub noted_after-requires-clause-plain : goal.noted_after-requires-clause-plain
noted_after-requires-clause-plain c = ap is_plain (sym (c.is_same_reply.ensures.0 c.if-not-is_same_reply.false)) ∙ c.in_ok-said.ensures.plain

pub returns-then-not-is_same_step-clause-ok : goal.returns-then-not-is_same_step-clause-ok
returns-then-not-is_same_step-clause-ok c = (refl, λ is. false≢true (sym c.if-not-is_same_step.true ∙ c.is_same_step.ensures.1 (is.named ∙ sym c.in_ok-noted.ensures)))

pub perform-requires-clause-step : goal.perform-requires-clause-step
perform-requires-clause-step c = not_true _ (sym c.goes_on.ensures ∙ c.if-goes_on.false)

pub returns-clause-ok : goal.returns-clause-ok
returns-clause-ok c =
    let s = c.args.machine.now in
    let done = c.in_ok-_made.ensures.ok in
    let told = one_reply s c.args.actor c.args.event.now c.in_ok-said.said _ c.requires.session c.in_ok-said.ensures.said done.reply in
    performed_so s _ c.args.actor c.args.event.now _ c.args.reply.now _ c.args.settled
    (sym told ∙ c.is_same_reply.ensures.0 c.if-not-is_same_reply.false)
    (c.is_same_step.ensures.0 c.if-not-is_same_step.false ∙ c.in_ok-noted.ensures) done
