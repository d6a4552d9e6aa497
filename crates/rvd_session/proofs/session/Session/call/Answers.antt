use Rattle.std.proofs.Common.{◌≤◌, sym, ap, ◌∙◌, subst}
use Rattle.std.specs.Prelude.{IfOk, IfErr}
use Rattle.rvd_session.specs.Sitting.{Called, Sitting, Uncalled}
use Rattle.rvd_desk.proofs.Turned.{continued, taken_as}
use Rattle.rvd_session.proofs.Turned.{called_of, fewer_never, sits_after, uncalled_of}
use Rattle.rvd_session.proofs.session.Session.call.Goals as goal

pub give-requires-clause-entries : goal.give-requires-clause-entries
give-requires-clause-entries g c =
    let took = c.take-desk.ensures.pass in
    continued c.make_call-made.result c.take-desk.result c.make_call-made.new.desk c.self.inside.actor c.take-desk.new.pass.number c.args.event c.take-desk.new.pass.seen
    (ap (λ p. p.seen) took) (sym (ap (λ p. p.number) took ∙ c.self.invariant.number)) c.make_call-made.ensures.ok c.make_call-made.ensures.err

pub invariant_of-self : goal.invariant_of-self
invariant_of-self g c =
    let e = c.take-desk.ensures in
    sits_after c.self.inside.actor c.self.inside.pass c.take-desk.new.pass c.give.new.pass c.self.inside.read c.make_call-made.new.latest c.take-desk.result c.make_call-made.new.desk c.args.event
    c.self.invariant (taken_as _ _ _ e.pass e.head e.seen e.own) c.make_call-made.ensures.legal c.give.ensures
    c.make_call-made.result c.make_call-made.ensures.ok c.make_call-made.ensures.read c.make_call-made.ensures.err c.make_call-made.ensures.kept

pub returns-clause-ok : goal.returns-clause-ok
returns-clause-ok g c =
    let e = c.take-desk.ensures in
    subst (λ (s : Sitting). IfOk c.make_call-made.result (λ r. Called s (record { pass = c.give.new.pass; read = c.make_call-made.new.latest }) c.args.event r)) c.self.view_is (
    called_of c.self.inside.actor c.self.inside.pass c.take-desk.new.pass c.give.new.pass c.self.inside.read c.make_call-made.new.latest c.take-desk.result c.make_call-made.new.desk c.args.event
    c.self.invariant (taken_as _ _ _ e.pass e.head e.seen e.own) c.make_call-made.ensures.legal c.give.ensures
    c.make_call-made.result c.make_call-made.ensures.ok c.make_call-made.ensures.read)

pub returns-clause-err : goal.returns-clause-err
returns-clause-err g c =
    let e = c.take-desk.ensures in
    subst (λ (s : Sitting). IfErr c.make_call-made.result (λ error. Uncalled s (record { pass = c.give.new.pass; read = c.make_call-made.new.latest }) c.args.event error)) c.self.view_is (
    uncalled_of c.self.inside.actor c.self.inside.pass c.take-desk.new.pass c.give.new.pass c.self.inside.read c.make_call-made.new.latest c.take-desk.result c.make_call-made.new.desk c.args.event
    c.self.invariant (taken_as _ _ _ e.pass e.head e.seen e.own) c.make_call-made.ensures.legal c.give.ensures
    c.make_call-made.result c.make_call-made.ensures.err c.make_call-made.ensures.kept)

pub returns-clause-reads : goal.returns-clause-reads
returns-clause-reads g c =
    let e = c.take-desk.ensures in
    subst (λ (s : Sitting). s.read.steps ≤ c.make_call-made.new.latest.steps) c.self.view_is (
    fewer_never c.self.inside.actor c.self.inside.pass c.take-desk.new.pass c.give.new.pass c.self.inside.read c.make_call-made.new.latest c.take-desk.result c.make_call-made.new.desk c.args.event
    c.self.invariant (taken_as _ _ _ e.pass e.head e.seen e.own) c.make_call-made.ensures.legal c.give.ensures
    c.steps_stay.ensures c.make_call-made.result c.make_call-made.ensures.ok c.make_call-made.ensures.read c.make_call-made.ensures.kept)
