use Rattle.std.proofs.Common.{sym, ap, ◌∙◌, subst, refl}
use Rattle.rvd_event.specs.declared.events.Event.TheVariants as event
use Rattle.rvd_session.specs.Sitting.{Sitting, WaitedIn}
use Rattle.rvd_desk.proofs.Turned.{taken_as}
use Rattle.rvd_session.proofs.Turned.{wait_continued, waited_of, waited_sits}
use Rattle.rvd_session.proofs.session.Session.look.Goals as goal

pub give-requires-clause-entries : goal.give-requires-clause-entries
give-requires-clause-entries g c =
    let took = c.take-desk.ensures.pass in
    wait_continued c.try_wait-made.result c.take-desk.result c.try_wait-made.new.desk c.self.inside.actor c.take-desk.new.pass.number c.take-desk.new.pass.seen
    (ap (λ p. p.seen) took) (sym (ap (λ p. p.number) took ∙ c.self.invariant.number)) c.try_wait-made.ensures.made

pub invariant_of-self : goal.invariant_of-self
invariant_of-self g c =
    let e = c.take-desk.ensures in
    waited_sits c.self.inside.actor c.self.inside.pass c.take-desk.new.pass c.give.new.pass c.self.inside.read c.self.inside.read c.take-desk.result c.try_wait-made.new.desk event.Wait
    c.self.invariant (taken_as _ _ _ e.pass e.head e.seen e.own) c.try_wait-made.ensures.legal c.give.ensures
    c.try_wait-made.result c.try_wait-made.ensures.made refl refl

pub returns-clause-looked : goal.returns-clause-looked
returns-clause-looked g c =
    let e = c.take-desk.ensures in
    subst (λ (s : Sitting). WaitedIn s (record { pass = c.give.new.pass; read = c.self.inside.read }) c.try_wait-made.result) c.self.view_is (
    waited_of c.self.inside.actor c.self.inside.pass c.take-desk.new.pass c.give.new.pass c.self.inside.read c.self.inside.read c.take-desk.result c.try_wait-made.new.desk event.Wait
    c.self.invariant (taken_as _ _ _ e.pass e.head e.seen e.own) c.try_wait-made.ensures.legal c.give.ensures
    c.try_wait-made.result c.try_wait-made.ensures.made refl refl)
