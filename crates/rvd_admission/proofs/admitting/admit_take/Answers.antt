use Rattle.std.proofs.Common.{refl, sym, ap, ◌∙◌}
use Rattle.std.specs.Prelude.{is_some}
use Rattle.std.proofs.lemmas.Bool.{false≢true}
use Rattle.rvd_event.specs.declared.replies.Reply.TheVariants as reply
use Rattle.rvd_admission.proofs.SessionReplies.{none_of, performed_take, take_answer}
use Rattle.rvd_admission.proofs.admitting.admit_take.Goals as goal

pub returns-then-is_some-clause-ok : goal.returns-then-is_some-clause-ok
returns-then-is_some-clause-ok c =
    (refl, λ is. false≢true (sym (ap is_some (take_answer c.args.machine.now c.args.actor c.args.n c.args.reply.now c.args.settled is).named) ∙ sym c.is_some.ensures ∙ c.if-is_some.true))

pub returns-then-takes_none-clause-ok : goal.returns-then-takes_none-clause-ok
returns-then-takes_none-clause-ok c =
    (refl, λ is. false≢true (sym (take_answer c.args.machine.now c.args.actor c.args.n c.args.reply.now c.args.settled is).given ∙ sym c.takes_none.ensures ∙ c.if-takes_none.true))

pub returns-then-not-is_job-clause-ok : goal.returns-then-not-is_job-clause-ok
returns-then-not-is_job-clause-ok c = (
  refl,
  λ is. false≢true (sym c.if-not-is_job.true ∙ c.is_job.ensures.1 (
      (take_answer c.args.machine.now c.args.actor c.args.n c.args.reply.now c.args.settled is).job
      ∙ (λ k. reply.Job (sym c.next_ticket.ensures k) (sym (c.list.ensures ∙ c.in_ok-items.ensures) k))
      )),
)

pub returns-clause-ok : goal.returns-clause-ok
returns-clause-ok c =
    performed_take c.args.machine.now _ c.args.actor c.args.n _ c.args.reply.now _ c.args.settled
    (c.is_job.ensures.0 c.if-not-is_job.false ∙ (λ k. reply.Job (c.next_ticket.ensures k) ((c.list.ensures ∙ c.in_ok-items.ensures) k)))
    (none_of c.args.settled (sym c.is_some.ensures ∙ c.if-is_some.false)) c.in_ok-_made.ensures.ok
