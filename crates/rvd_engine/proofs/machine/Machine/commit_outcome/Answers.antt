use Rattle.std.proofs.Common.{◌≡◌, false, ◌++◌, [], ◌∷◌, List, length, None, ap, ◌∙◌, subst, sym}
use Rattle.rvd_fact.specs.declared.cells.Change.{Change}
use Rattle.rvd_ask.specs.declared.asks.Item.{Item}
use Rattle.rvd_event.specs.declared.steps.Step.{Step}
use Rattle.rvd_event.specs.declared.steps.Step.TheVariants as step
use Rattle.rvd_queue.specs.Cells.{Contents}
use Rattle.rvd_queue.specs.Sets.{with_all}
use Rattle.rvd_trans.specs.Transaction.{Transaction}
use Rattle.rvd_undo.specs.History.{after_commit}
use Rattle.rvd_undo.specs.Records.{Records, history}
use Rattle.rvd_machine.specs.Moves.{analysis_text}
use Rattle.rvd_machine.specs.State.{State, is_open, other_jobs}
use Rattle.rvd_machine.specs.Steps.{AreJobs}
use Rattle.rvd_engine.specs.Inside.{current_in, jobs_in, state_in}
use Rattle.rvd_engine.specs.Offered.{taken_in}
use Rattle.rvd_engine.proofs.Offering.{committed_is, is_closed, jobs_left}
use Rattle.rvd_engine.proofs.machine.Machine.commit_outcome.Goals as goal

pub returns-clause-ok : goal.returns-clause-ok
returns-clause-ok c =
    let m = c.self.inside in
    let s : State = state_in m in
    let o = c.args.outcome in
    let cs : List Change = o.changes.items in
    let joint : Transaction = c.note_all.new.joint in
    let closed : m.current ≡ None = is_closed m.queues.kept m.current (subst (λ (u : State). is_open u.current ≡ false) (sym c.self.view_is) c.requires.closed) in
    let is_history : history c.commit.new.base c.commit.new.undos.records ≡ after_commit s.history o.work =
    c.commit.ensures.history ∙ ap (λ (r : Records). after_commit (history m.base r) o.work) c.in_ok-reserve-3.ensures.records in
    let gained : c.add_all.new.self.queued ≡ with_all o.again.items s.queue =
    ap (λ (q : Contents). q.queued) c.in_ok-add_all.ensures.ok ∙ ap (λ (xs : List Item). with_all xs s.queue) c.deref.ensures.value in
    let rising : AreJobs 1 s.next_ticket s.taken = subst (λ (u : State). AreJobs 1 u.next_ticket u.taken) (sym c.self.view_is) c.requires.ready.jobs in
    let gone : jobs_in c.drop_ticket.new.self ≡ other_jobs c.args.ticket s.taken = jobs_left s c.args.ticket m.taken c.drop_ticket.new.self rising c.drop_ticket.ensures in
    let opener : joint.opener ≡ c.args.actor =
    ap (λ (t : Transaction). t.opener) c.note_all.ensures ∙ ap (λ (t : Transaction). t.opener) c.in_ok-reserve.ensures.value ∙ ap (λ (t : Transaction). t.opener) c.in_ok-joint.ensures in
    let text : joint.text ≡ analysis_text =
    ap (λ (t : Transaction). t.text) c.note_all.ensures ∙ ap (λ (t : Transaction). t.text) c.in_ok-reserve.ensures.value ∙ ap (λ (t : Transaction). t.text) c.in_ok-joint.ensures ∙ c.in_ok-analysis_text.ensures in
    let changes : joint.changes ≡ cs =
    ap (λ (t : Transaction). t.changes) c.note_all.ensures ∙ ap (λ (t : Transaction). t.changes ++ cs) c.in_ok-reserve.ensures.value ∙ ap (λ (t : Transaction). t.changes ++ cs) c.in_ok-joint.ensures in
    let step_is : step.Commit joint.opener joint.text (length joint.changes) ≡ step.Commit c.args.actor analysis_text (length cs) =
    λ k. step.Commit (opener k) (text k) (length (changes k)) in
    let noted : c.commit.new.steps.items ≡ s.steps ++ step.Commit c.args.actor analysis_text (length cs) ∷ [] =
    c.commit.ensures.step [] ∙ ap (λ (xs : List Step). xs ++ step.Commit joint.opener joint.text (length joint.changes) ∷ []) c.in_ok-reserve-2.ensures.items
    ∙ ap (λ (x : Step). s.steps ++ x ∷ []) step_is in
    committed_is s c.args.actor c.args.ticket o (history c.commit.new.base c.commit.new.undos.records) c.add_all.new.self.queued (jobs_in c.drop_ticket.new.self) c.commit.new.steps.items (current_in c.add_all.new.self.kept m.current)
    (ap (current_in m.queues.kept) closed) (ap (current_in c.add_all.new.self.kept) closed) c.requires.some is_history gained gone noted
    ∙ ap (λ (u : State). taken_in u c.args.actor c.args.ticket o) c.self.view_is
