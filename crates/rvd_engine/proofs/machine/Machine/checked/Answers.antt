use Rattle.std.proofs.Common.{ap, sym}
use Rattle.rvd_machine.specs.State.{State}
use Rattle.rvd_engine.proofs.OfferReplies.{found_job, is_taken, no_job}
use Rattle.rvd_engine.proofs.machine.Machine.checked.Goals as goal

pub returns-in-None-clause-checked : goal.returns-in-None-clause-checked
returns-in-None-clause-checked c = no_job c.args.self.now c.args.ticket c.args.verdicts.now (sym c.in-None.ensures)

pub returns-in_ok-found-in-Some-clause-checked : goal.returns-in_ok-found-in-Some-clause-checked
returns-in_ok-found-in-Some-clause-checked c =
    found_job c.args.self.now c.args.ticket c.in-Some.items.now c.list-list.result.now c.in-Some.program.now c.work-work.result.now _ c.args.verdicts.now c.in_ok-found-in-Some.found (sym c.in-Some.ensures) c.list-list.ensures c.work-work.ensures
    (ap (λ (u : State). u.enabled) c.self.view_is) c.in_ok-found-in-Some.ensures

pub returns-in_ok-found-in-Some-clause-taken : goal.returns-in_ok-found-in-Some-clause-taken
returns-in_ok-found-in-Some-clause-taken c = λ some. is_taken c.args.self.now c.args.ticket c.in-Some.items.now c.in-Some.program.now (sym c.in-Some.ensures)
