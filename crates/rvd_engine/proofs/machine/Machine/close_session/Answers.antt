use Rattle.std.proofs.Common.{rules, ◌≡◌, ◌∙◌, ap, sym, subst, eqb, not, true, ℕ}
use Rattle.std.proofs.lemmas.Fn.{filter_same}
use Rattle.rvd_event.specs.declared.events.Event.TheVariants as event
use Rattle.rvd_event.specs.declared.replies.Reply.TheVariants as reply
use Rattle.rvd_machine.specs.State.{State, is_session, without}
use Rattle.rvd_engine.specs.Inside.{state_in}
use Rattle.rvd_engine.specs.Performed.{Answers}
use Rattle.rvd_engine.proofs.Ending.{closes}
use Rattle.rvd_engine.proofs.machine.Machine.close_session.Goals as goal

pub returns-clause-reply : goal.returns-clause-reply
returns-clause-reply c =
    let s : State = state_in c.self.inside in
    let left : c.retain.new.self.items ≡ without c.args.actor s.open_sessions = filter_same _ (λ (x : ℕ). not (eqb x c.args.actor)) _ (λ x b f' k. search rules) _ _ c.retain.ensures.filtered in
    let here : is_session c.args.actor s.open_sessions ≡ true = ap (λ (u : State). is_session c.args.actor u.open_sessions) c.self.view_is ∙ sym c.is_session.ensures ∙ c.if-not-is_session.false in
    subst (λ (u : State). Answers u c.abort_all-ended.new.self c.args.actor event.Close (reply.Closed c.abort_all-ended.result)) c.self.view_is
    (closes s c.abort_all-ended.new.self c.args.actor c.abort_all-ended.result c.retain.new.self.items here c.abort_all-ended.ensures.answer left c.abort_all-ended.ensures.state)
