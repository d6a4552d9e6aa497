use Rattle.std.proofs.Common.{◌≡◌, true, ◌+◌, ◌++◌, [], ◌∷◌, List, length, ap, sym, subst, ◌∙◌, rules}
use Rattle.rvd_fact.specs.Program.{Program}
use Rattle.rvd_ask.specs.declared.asks.Item.{Item}
use Rattle.rvd_ask.specs.Unsettled.{are_in_order}
use Rattle.rvd_event.specs.declared.events.Event.TheVariants as event
use Rattle.rvd_event.specs.declared.replies.Reply.TheVariants as reply
use Rattle.rvd_event.specs.declared.steps.Step.{Step}
use Rattle.rvd_event.specs.declared.steps.Step.TheVariants as step
use Rattle.rvd_machine.specs.Enabled.{all_candidates}
use Rattle.rvd_machine.specs.Moves.{kept_with}
use Rattle.rvd_machine.specs.State.{State, base, is_session, work}
use Rattle.rvd_queue.specs.Cells.{Contents}
use Rattle.rvd_queue.specs.Sets.{with_all}
use Rattle.rvd_engine.specs.Inside.{current_in, state_in}
use Rattle.rvd_engine.specs.Performed.{Answers}
use Rattle.rvd_engine.proofs.Analysing.{did_fill, gains_alike}
use Rattle.rvd_engine.proofs.CandidateLists.{kept_more}
use Rattle.rvd_engine.proofs.machine.Machine.full.Goals as goal

pub returns-clause-ok : goal.returns-clause-ok
returns-clause-ok c =
    let m = c.self.inside in
    let s : State = state_in m in
    let a = c.args.actor in
    let here : is_session a s.open_sessions ≡ true = ap (λ (u : State). is_session a u.open_sessions) c.self.view_is ∙ sym c.is_session.ensures ∙ c.if-not-is_session.false in
    let of_base : (q : List Item) → are_in_order q ≡ true → with_all c.deref-2.result.now q ≡ with_all (all_candidates s.enabled (base s)) q =
    λ q ordered. ap (λ (xs : List Item). with_all xs q) c.deref-2.ensures.value ∙ c.in_ok-of_base.ensures q ordered in
    let of_work : (q : List Item) → are_in_order q ≡ true → with_all c.deref.result.now q ≡ with_all (all_candidates s.enabled (work s)) q =
    λ q ordered. ap (λ (xs : List Item). with_all xs q) c.deref.ensures.value ∙ c.in_ok-of_work.ensures q ordered
    ∙ ap (λ (S : Program). with_all (all_candidates s.enabled S) q) (c.work.ensures ∙ ap (λ (u : State). work u) (sym c.self.view_is)) in
    let queued : c.gain.new.queues.queued ≡ with_all (all_candidates s.enabled (work s)) (with_all (all_candidates s.enabled (base s)) s.queue) =
    ap (λ (q : Contents). q.queued) c.in_ok-gain.ensures.ok ∙ gains_alike c.set_law.ensures c.deref-2.result.now c.deref.result.now (all_candidates s.enabled (base s)) (all_candidates s.enabled (work s)) s.queue c.len.ensures.sets.queued of_base of_work in
    let kept : current_in c.gain.new.queues.kept m.current ≡ kept_with (all_candidates s.enabled (base s)) s.current =
    ap (λ (q : Contents). current_in q.kept m.current) c.in_ok-gain.ensures.ok
    ∙ ap (λ (xs : List Item). current_in xs m.current) (of_base m.queues.kept c.len.ensures.sets.kept)
    ∙ kept_more (all_candidates s.enabled (base s)) m.queues.kept m.current in
    let noted : c.push_reserved.new.self.items ≡ s.steps ++ step.Full a ∷ [] =
    c.push_reserved.ensures.items ∙ ap (λ (xs : List Step). xs ++ step.Full a ∷ []) c.in_ok-reserve.ensures.items in
    let counted : c.len-2.result ≡ length s.steps + 1 = search rules in
    subst (λ (u : State). Answers u (record s { queue = c.gain.new.queues.queued; current = current_in c.gain.new.queues.kept m.current; steps = c.push_reserved.new.self.items; whole = true; due = true }) a event.Full (reply.StepNo c.len-2.result)) c.self.view_is
    (did_fill s a c.gain.new.queues.queued (current_in c.gain.new.queues.kept m.current) c.push_reserved.new.self.items c.len-2.result here queued kept noted counted)
