use Rattle.std.proofs.Common.{sym, ap, ◌∙◌, arith}
use Rattle.rvd_turn.proofs.Waiting.{draws, looks, served, unserved}
use Rattle.rvd_turn.proofs.turn.Turn.wait_turn.Goals as goal

pub fetch_add-ticket-requires : goal.fetch_add-ticket-requires
fetch_add-ticket-requires g c =
    let r = c.self.invariant in
    let i = c.requires.idle in
    (c.requires.this_turn ∙ sym c.self.view_is, omega arith, draws g.T.Storied.head g.T.Storied.entries g.T.Storied.owner _ _ _ i.0 i.1 i.2)

pub load-now-requires : goal.load-now-requires
load-now-requires g c =
    let r = c.self.invariant in
    let l = c.loop.invariant in
    (l.0 ∙ c.requires.this_turn ∙ sym c.self.view_is, omega arith, looks g.T.Storied.head g.T.Storied.entries g.T.Storied.owner _ _ _ (ap (λ m. m.0.live) l.2 ∙ c.requires.idle.0))

pub returns-then-now-ticket-clause-got : goal.returns-then-now-ticket-clause-got
returns-then-now-ticket-clause-got g c =
    let l = c.loop.invariant in
    let e = c.load-now.ensures in
    served g.T.Storied.head g.T.Storied.entries g.T.Storied.owner 1 c.args.seat.now.me c.loop.seat.me _ c.fetch_add-ticket.result _ l.2 c.requires.idle.1 c.if-now-ticket.true e.2

pub loop-preserved : goal.loop-preserved
loop-preserved g c =
    let l = c.loop.invariant in
    let e = c.load-now.ensures in
    (e.0 ∙ l.0, e.1 ∙ l.1, unserved g.T.Storied.head g.T.Storied.entries g.T.Storied.owner 1 c.args.seat.now.me c.loop.seat.me _ c.fetch_add-ticket.result _ l.2 c.requires.idle.1 c.if-now-ticket.false e.2)
