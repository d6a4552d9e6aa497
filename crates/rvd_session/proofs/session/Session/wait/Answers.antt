use Rattle.std.proofs.Common.{Some}
use Rattle.rvd_session.proofs.Turned.{uncalled_from, wait_before}
use Rattle.rvd_session.proofs.session.Session.wait.Goals as goal

pub returns-in-Some-look-clause-err : goal.returns-in-Some-look-clause-err
returns-in-Some-look-clause-err g c =
    let l = c.loop.invariant in
    uncalled_from c.in-Some-look.made c.args.self.now c.look.new.self
    (wait_before c.args.self.now.pass c.loop.self.pass c.look.new.self.pass c.args.self.now.read c.loop.self.read c.look.new.self.read (Some c.in-Some-look.made) l.more l.same l.kept c.in-Some-look.ensures.looked)
