use Rattle.std.proofs.Common.{sym, ap, ◌∙◌}
use Rattle.rvd_desk.proofs.Turned.{taken_as}
use Rattle.rvd_work.proofs.Turned.{offered_continues, offered_of}
use Rattle.rvd_work.proofs.turns.offer_turn.Goals as goal

pub give-requires-clause-entries : goal.give-requires-clause-entries
give-requires-clause-entries g c =
    let took = c.take-desk.ensures.pass in
    offered_continues c.offer_on-offered.result c.take-desk.result c.offer_on-offered.new.desk c.args.worker c.take-desk.new.pass.number c.args.ticket c.args.proposals.items c.take-desk.new.pass.seen
    (ap (λ p. p.seen) took) (sym (ap (λ p. p.number) took ∙ c.requires.worker.number)) c.offer_on-offered.ensures.ok c.offer_on-offered.ensures.err

pub returns-clause-ok : goal.returns-clause-ok
returns-clause-ok g c =
    let e = c.take-desk.ensures in
    offered_of c.args.worker c.args.pass.now c.take-desk.new.pass c.give.new.pass c.take-desk.result c.offer_on-offered.new.desk (taken_as _ _ _ e.pass e.head e.seen e.own) c.requires.worker.idle c.requires.worker.number c.offer_on-offered.ensures.legal c.give.ensures
    c.args.ticket c.args.proposals.items c.offer_on-offered.result c.offer_on-offered.ensures.ok
