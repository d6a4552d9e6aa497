use Rattle.std.proofs.Common.{ap}
use Rattle.rvd_desk.proofs.Turned.{goes_same}
use Rattle.rvd_work.proofs.turns.halt_turn.Goals as goal

pub give-requires-clause-entries : goal.give-requires-clause-entries
give-requires-clause-entries g c =
    goes_same c.take-desk.result c.stop.new.self c.take-desk.new.pass.number c.take-desk.new.pass.seen (ap (λ p. p.seen) c.take-desk.ensures.pass)
    (ap (λ d. d.head) c.stop.ensures, ap (λ d. d.journal) c.stop.ensures)
