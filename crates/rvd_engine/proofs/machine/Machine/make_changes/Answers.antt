use Rattle.std.proofs.Common.{◌≡◌, ◌++◌, List, Option, ap, ◌∙◌, subst, sym}
use Rattle.rvd_fact.specs.declared.cells.Change.{Change}
use Rattle.rvd_fact.specs.Program.{applied_all}
use Rattle.rvd_fact.specs.Valid.{Fits}
use Rattle.rvd_trans.specs.Transaction.{Transaction}
use Rattle.rvd_machine.specs.State.{State, work, work_in}
use Rattle.rvd_engine.specs.declared.working.Working.{Working}
use Rattle.rvd_engine.specs.Inside.{LeadsFrom, current_in}
use Rattle.rvd_engine.proofs.Committing.{leads_on}
use Rattle.rvd_engine.proofs.machine.Machine.make_changes.Goals as goal

pub invariant_of-self-in-Some : goal.invariant_of-self-in-Some
invariant_of-self-in-Some c =
    let w = c.in-Some.working in
    let m = c.self.inside in
    let cs : List Change = c.args.changes.items in
    let are : c.note_all.new.joint.changes ≡ w.joint.changes ++ cs = ap (λ (t : Transaction). t.changes) c.note_all.ensures ∙ ap (λ (t : Transaction). t.changes ++ cs) c.in_ok-reserve-in-Some.ensures.value in
    let to : c.change_work.new.work ≡ applied_all w.work cs = c.in_ok-change_work-in-Some.ensures.work ∙ ap (applied_all w.work) c.deref.ensures.value in
    let fits : Fits w.work cs = subst (λ (cur : Option Working). Fits (work_in m.base (current_in m.queues.kept cur)) cs) c.in-Some.is (subst (λ (u : State). Fits (work u) cs) (sym c.self.view_is) c.requires.fits) in
    record {
      stands = c.self.invariant.stands;
      leads = leads_on m.base w.work c.change_work.new.work w.joint.changes cs c.note_all.new.joint.changes (subst (LeadsFrom m.base) c.in-Some.is c.self.invariant.leads) fits are to;
      room = c.self.invariant.room;
    }
