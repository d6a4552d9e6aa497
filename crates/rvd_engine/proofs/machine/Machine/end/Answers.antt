use Rattle.std.proofs.Common.{rules, ◌≡◌, ℕ, ◌++◌, ◌∷◌, [], true, false, length, List, Option, None, ap, sym, ◌∙◌, subst, arith}
use Rattle.rvd_event.specs.declared.events.Event.TheVariants as event
use Rattle.rvd_event.specs.declared.replies.Reply.TheVariants as reply
use Rattle.rvd_event.specs.declared.steps.Step.{Step}
use Rattle.rvd_queue.specs.Cells.{Contents}
use Rattle.rvd_trans.specs.Entries.{count_of}
use Rattle.rvd_trans.specs.Transaction.{Transaction, has_live}
use Rattle.rvd_undo.specs.History.{after_commit}
use Rattle.rvd_undo.specs.Records.{Records, history}
use Rattle.rvd_machine.specs.Moves.{commit_step}
use Rattle.rvd_machine.specs.State.{State, is_session, lives_of, lives_of_in}
use Rattle.rvd_engine.specs.declared.working.Working.{Working}
use Rattle.rvd_engine.specs.Inside.{current_in, open_of, state_in}
use Rattle.rvd_engine.specs.Performed.{Answers}
use Rattle.rvd_engine.proofs.Ending.{committed, is_some_live}
use Rattle.rvd_engine.proofs.machine.Machine.end.Goals as goal

pub returns-clause-ok : goal.returns-clause-ok
returns-clause-ok c =
    let m = c.self.inside in
    let s : State = state_in m in
    let a : ℕ = c.args.actor in
    let kept = m.queues.kept in
    let w = c.in-Some.working in
    let u : Transaction = c.end.new.self in
    let here : is_session a s.open_sessions ≡ true = ap (λ (x : State). is_session a x.open_sessions) c.self.view_is ∙ sym c.is_session.ensures ∙ c.if-not-is_session.false in
    let open_one = sym c.take.ensures.value ∙ c.in-Some.is in
    let count : c.live_of.result ≡ count_of a w.joint.entries =
    c.live_of.ensures ∙ ap (λ (x : State). lives_of x a) (sym c.self.view_is) ∙ ap (λ (cur : Option Working). lives_of_in a (current_in kept cur)) open_one in
    let live : has_live a w.joint ≡ true = is_some_live c.live_of.result (count_of a w.joint.entries) c.if-live_of-eq0.false count in
    let none : length u.entries ≡ 0 = omega (arith, c.live-live.ensures.value, c.if-live-gt0.false) in
    let clean : u.aborted ≡ false = sym c.doomed.ensures ∙ c.if-doomed.false in
    let moved = c.commit.ensures.history ∙ ap (λ (r : Records). after_commit (history m.base r) w.work) c.reserve-2.ensures.records in
    let noted : c.commit.new.steps.items ≡ s.steps ++ commit_step (open_of kept w.work u) ∷ [] =
    c.commit.ensures.step kept ∙ ap (λ (xs : List Step). xs ++ commit_step (open_of kept w.work u) ∷ []) c.reserve.ensures.items in
    let answered = committed s a c.args.keep kept w.work w.joint u (history c.commit.new.base c.commit.new.undos.records) c.commit.new.steps.items
    here (ap (current_in kept) open_one) live c.end.ensures.value none clean moved noted in
    let state_by = λ (cur : Option Working) (q : Contents). let t : State = record s { history = history c.commit.new.base c.commit.new.undos.records; steps = c.commit.new.steps.items; current = current_in q.kept cur; queue = q.queued; due = true } in t in
    let to = ap (λ (cur : Option Working). state_by cur c.forget-in-Some.new.self) c.take.ensures.after ∙ ap (λ (q : Contents). state_by None q) c.forget-in-Some.ensures in
    let counted : c.len.result ≡ length c.commit.new.steps.items = search (rules, c.len.ensures) in
    subst (λ (x : State). Answers x (state_by c.take.new.self c.forget-in-Some.new.self) a (event.End c.args.keep) (reply.Committed c.len.result)) c.self.view_is
    (subst (λ n. Answers s (state_by c.take.new.self c.forget-in-Some.new.self) a (event.End c.args.keep) (reply.Committed n)) (sym counted)
    (subst (λ (t : State). Answers s t a (event.End c.args.keep) (reply.Committed (length c.commit.new.steps.items))) (sym to) answered))
