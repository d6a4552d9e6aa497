use Rattle.std.proofs.Common.{refl, sym, ◌∙◌, subst}
use Rattle.rvd_engine.specs.Offered.{IsFound}
use Rattle.rvd_engine.proofs.machine.Machine.judge.Goals as goal

pub returns-in-Refused-clause-ok : goal.returns-in-Refused-clause-ok
returns-in-Refused-clause-ok c =
    let found = subst (IsFound c.args.self.now c.args.ticket c.args.proposals.now) c.in-Refused.is c.in_ok-refusal.ensures in
    record { reply = found.1 c.args.actor; state = refl }

pub returns-in_ok-take_in-in-Judged-clause-ok : goal.returns-in_ok-take_in-in-Judged-clause-ok
returns-in_ok-take_in-in-Judged-clause-ok c =
    let found = subst (IsFound c.args.self.now c.args.ticket c.args.proposals.now) c.in-Judged.is c.in_ok-refusal.ensures in
    record { reply = found.0.legal c.args.actor; state = c.in_ok-take_in-in-Judged.ensures.ok ∙ sym (found.0.state c.args.actor) }
