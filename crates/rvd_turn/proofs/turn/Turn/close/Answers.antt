use Rattle.std.proofs.Common.{ap, ◌∙◌}
use Rattle.rvd_turn.specs.Known.{Tells}
use Rattle.rvd_turn.proofs.Closing.{NoneFrom, finds_some, finds_none}
use Rattle.rvd_turn.proofs.turn.Turn.close.Goals.{In-Some}
use Rattle.rvd_turn.proofs.turn.Turn.close.Goals as goal

pub unreachable-requires : goal.unreachable-requires
unreachable-requires g c =
    let p = c.pass.invariant in
    let idle = ap (λ k. k.turn) c.pass.view_is ∙ c.requires.no_turn in
    finds_none g.T.Storied.head g.T.Storied.entries g.T.Storied.owner _ _ _ _ _ _ _ p.live idle (p.ticket idle) c.pass.view_is c.requires.all c.close_with-closed.ensures.values.2 c.take-value.ensures.value c.in_default.is

-- What the value that came out of the slot tells.
ends : (g : _) (c : In-Some g) → Tells g.T.Storied.head g.T.Storied.entries g.T.Storied.owner c.args.pass c.in-Some.value × NoneFrom g.T.Storied.head g.T.Storied.entries g.T.Storied.owner c.args.pass.made c.in-Some.value
ends g c =
    let p = c.pass.invariant in
    let idle = ap (λ k. k.turn) c.pass.view_is ∙ c.requires.no_turn in
    finds_some g.T.Storied.head g.T.Storied.entries g.T.Storied.owner _ _ _ _ _ _ _ p.live idle (p.ticket idle) c.pass.view_is c.requires.all c.close_with-closed.ensures.values.2 c.take-value.ensures.value c.in-Some.value c.in-Some.is

pub returns-clause-head : goal.returns-clause-head
returns-clause-head g c = (ends g c).0.0

pub returns-clause-seen : goal.returns-clause-seen
returns-clause-seen g c = (ends g c).0.1

pub returns-clause-own : goal.returns-clause-own
returns-clause-own g c = (ends g c).0.2

pub returns-clause-met : goal.returns-clause-met
returns-clause-met g c = (ends g c).0.3

pub returns-clause-others : goal.returns-clause-others
returns-clause-others g c = (ends g c).1
