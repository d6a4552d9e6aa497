use Rattle.std.proofs.Common.{◌≡◌, ◌+◌, ◌++◌, List, length, Option, Some, ap, ◌∙◌, subst, sym}
use Rattle.rvd_fact.specs.declared.cells.Change.{Change}
use Rattle.rvd_fact.specs.Program.{Program, applied_all}
use Rattle.rvd_fact.specs.Valid.{Fits}
use Rattle.rvd_ask.specs.declared.asks.Item.{Item}
use Rattle.rvd_queue.specs.Cells.{Contents}
use Rattle.rvd_queue.specs.Sets.{with_all}
use Rattle.rvd_trans.specs.Transaction.{Transaction}
use Rattle.rvd_machine.specs.State.{State, Open, other_jobs, work, work_in}
use Rattle.rvd_machine.specs.Steps.{AreJobs}
use Rattle.rvd_engine.specs.declared.working.Working.{Working}
use Rattle.rvd_engine.specs.Inside.{LeadsFrom, current_in, jobs_in, open_in, open_of, state_in}
use Rattle.rvd_engine.specs.Offered.{taken_in}
use Rattle.rvd_engine.proofs.Committing.{leads_on}
use Rattle.rvd_engine.proofs.Offering.{grown_is, jobs_left, noted_more}
use Rattle.rvd_engine.proofs.machine.Machine.grow.Goals as goal

pub invariant_of-self-in-Some : goal.invariant_of-self-in-Some
invariant_of-self-in-Some c =
    let w = c.in-Some.working in
    let m = c.self.inside in
    let cs : List Change = c.args.outcome.changes.items in
    let are : c.note_all.new.joint.changes ≡ w.joint.changes ++ cs = ap (λ (t : Transaction). t.changes) c.note_all.ensures ∙ ap (λ (t : Transaction). t.changes ++ cs) c.in_ok-reserve-in-Some.ensures.value in
    let is_work : work c.args.self.now ≡ w.work = ap (λ (u : State). work u) (sym c.self.view_is) ∙ ap (λ (cur : Option Working). work_in m.base (current_in m.queues.kept cur)) c.in-Some.is in
    let fits : Fits w.work cs = subst (λ (S : Program). Fits S cs) is_work c.requires.leads.fits in
    let to : c.args.outcome.work ≡ applied_all w.work cs = sym c.requires.leads.to ∙ ap (λ (S : Program). applied_all S cs) is_work in
    record {
      stands = c.self.invariant.stands;
      leads = leads_on m.base w.work c.args.outcome.work w.joint.changes cs c.note_all.new.joint.changes (subst (LeadsFrom m.base) c.in-Some.is c.self.invariant.leads) fits are to;
      room = c.self.invariant.room;
    }

pub returns-clause-ok : goal.returns-clause-ok
returns-clause-ok c =
    let w = c.in-Some.working in
    let m = c.self.inside in
    let s : State = state_in m in
    let o = c.args.outcome in
    let cs : List Change = o.changes.items in
    let joint : Transaction = c.note_all.new.joint in
    let current : Option Open = current_in c.add_all.new.self.kept (Some (record { work = o.work; joint = c.note_all.new.joint })) in
    let open_one : s.current ≡ Some (open_in m.queues.kept w) = ap (current_in m.queues.kept) c.in-Some.is in
    let is_joint : joint ≡ record w.joint { changes = w.joint.changes ++ cs; spare = joint.spare } =
    c.note_all.ensures ∙ ap (λ (t : Transaction). let u : Transaction = record t { changes = t.changes ++ cs; spare = joint.spare } in u) c.in_ok-reserve-in-Some.ensures.value in
    let grown : current ≡ Some (record (open_in m.queues.kept w) { work = o.work; changes = length w.joint.changes + length cs }) =
    ap (λ (q : Contents). Some (open_of q.kept o.work joint)) c.in_ok-add_all-in-Some.ensures.ok ∙ ap (λ (x : Open). Some x) (noted_more m.queues.kept o.work w joint cs is_joint) in
    let gained : c.add_all.new.self.queued ≡ with_all o.again.items s.queue =
    ap (λ (q : Contents). q.queued) c.in_ok-add_all-in-Some.ensures.ok ∙ ap (λ (xs : List Item). with_all xs s.queue) c.deref.ensures.value in
    let rising : AreJobs 1 s.next_ticket s.taken = subst (λ (u : State). AreJobs 1 u.next_ticket u.taken) (sym c.self.view_is) c.requires.ready.jobs in
    let gone : jobs_in c.drop_ticket.new.self ≡ other_jobs c.args.ticket s.taken = jobs_left s c.args.ticket m.taken c.drop_ticket.new.self rising c.drop_ticket.ensures in
    grown_is s c.args.actor c.args.ticket o (open_in m.queues.kept w) c.add_all.new.self.queued (jobs_in c.drop_ticket.new.self) current open_one grown gained gone
    ∙ ap (λ (u : State). taken_in u c.args.actor c.args.ticket o) c.self.view_is
