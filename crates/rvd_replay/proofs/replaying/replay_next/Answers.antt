use Rattle.std.proofs.Common.{◌-◌, Option, subst, arith}
use Rattle.rvd_journal.specs.declared.entries.Entry.{Entry}
use Rattle.rvd_line_reading.specs.Front.{IsNext}
use Rattle.rvd_replay.proofs.Replays.{went_on}
use Rattle.rvd_replay.proofs.replaying.replay_next.Goals as goal

pub returns-in-Some : goal.returns-in-Some
returns-in-Some c =
    let next = subst (λ (found : Option Entry). IsNext c.args.names (c.from-number.result - 1) c.args.rest.now c.read_next.new.rest found) c.in-Some.is c.in_ok-read_next.ensures in
    went_on c.front_law.ensures c.bare_entries_are_steps.ensures c.admit.result c.args.names c.args.desk.now _ c.args.rest.now _ (c.from-number.result - 1) c.in-Some.entry (omega (arith, c.from-number.ensures, c.next_line.ensures)) (omega arith) next c.admit.ensures.ok
