use Rattle.std.proofs.Common.{Option, refl, subst, inl}
use Rattle.rvd_event.specs.declared.queries.Names.{Names}
use Rattle.rvd_line_reading.specs.Front.{HasNoHead, IsHead}
use Rattle.rvd_replay.proofs.Exactness.{headless}
use Rattle.rvd_replay.proofs.replaying.replay.Goals as goal

pub returns-in-None : goal.returns-in-None
returns-in-None c =
    let none = subst HasNoHead c.of-rest.ensures (subst (λ (found : Option Names). IsHead c.of-rest.result c.read_head.new.rest found) c.in-None.is c.in_ok-read_head.ensures) in
    (inl (refl, none), headless c.args.program c.args.text.now none)
