use Rattle.std.proofs.Common.{sym, ap, ◌∙◌}
use Rattle.rvd_desk.proofs.Turned.{taken_as}
use Rattle.rvd_work.proofs.Turned.{looked_err, took_continues, took_of}
use Rattle.rvd_work.proofs.turns.take_turn.Goals as goal

pub give-requires-clause-entries : goal.give-requires-clause-entries
give-requires-clause-entries g c =
    let took = c.take-desk.ensures.pass in
    took_continues c.take_on-took.result c.take-desk.result c.take_on-took.new.desk c.args.worker c.take-desk.new.pass.number c.args.batch c.take-desk.new.pass.seen
    (ap (λ p. p.seen) took) (sym (ap (λ p. p.number) took ∙ c.requires.worker.number)) c.take_on-took.ensures.ok c.take_on-took.ensures.err

pub returns-clause-ok : goal.returns-clause-ok
returns-clause-ok g c =
    let e = c.take-desk.ensures in
    took_of c.args.worker c.args.pass.now c.take-desk.new.pass c.give.new.pass c.take-desk.result c.take_on-took.new.desk (taken_as _ _ _ e.pass e.head e.seen e.own) c.requires.worker.idle c.requires.worker.number c.take_on-took.ensures.legal c.give.ensures
    c.args.batch c.take_on-took.result c.take_on-took.ensures.ok

pub returns-clause-err : goal.returns-clause-err
returns-clause-err g c =
    let e = c.take-desk.ensures in
    looked_err c.args.worker c.args.pass.now c.take-desk.new.pass c.give.new.pass c.take-desk.result c.take_on-took.new.desk (taken_as _ _ _ e.pass e.head e.seen e.own) c.requires.worker.idle c.requires.worker.number c.take_on-took.ensures.legal c.give.ensures
    c.take_on-took.result c.take_on-took.ensures.err
