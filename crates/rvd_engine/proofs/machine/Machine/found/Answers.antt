use Rattle.std.proofs.Common.{◌≡◌, ◌≤◌, List, length, ap, sym, ◌∙◌, arith}
use Rattle.rvd_ask.specs.declared.asks.Item.{Item}
use Rattle.rvd_machine.specs.Exact.{first_misfit}
use Rattle.rvd_engine.proofs.Offering.{misfit_found}
use Rattle.rvd_engine.proofs.TakenJobs.{has_few}
use Rattle.rvd_engine.proofs.machine.Machine.found.Goals as goal

pub misfit-requires : goal.misfit-requires
misfit-requires c =
    let few : length c.in-Some.items.now ≤ 64 = has_few c.args.ticket 1 c.args.self.now.next_ticket c.args.self.now.taken c.in-Some.items.now c.in-Some.program.now c.requires.jobs (sym c.in-Some.ensures) in
    let same : length c.list.result.now ≡ length c.in-Some.items.now = ap length c.list.ensures in
    omega (arith, few, same)

pub returns-in-Some-misfit : goal.returns-in-Some-misfit
returns-in-Some-misfit c =
    misfit_found c.args.self.now c.args.ticket c.args.proposals.now c.in-Some-misfit.place c.in-Some.items.now c.in-Some.program.now (sym c.in-Some.ensures) (c.in-Some-misfit.ensures.place ∙ ap (λ (xs : List Item). first_misfit xs c.args.proposals.now) c.list.ensures)
