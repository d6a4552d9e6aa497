use Rattle.std.proofs.Common.{sym, ap, ◌∙◌, arith}
use Rattle.rvd_turn.proofs.Joining.{joins, compares}
use Rattle.rvd_turn.specs.Known.{carried}
use Rattle.rvd_turn.proofs.turn.Turn.meet.Goals as goal

pub join_seat-requires : goal.join_seat-requires
join_seat-requires g c =
    let p = c.pass.invariant in
    let q = c.other.invariant in
    let idle = ap (λ k. k.turn) c.pass.view_is ∙ c.requires.no_turn.0 in
    let idle' = ap (λ k. k.turn) c.other.view_is ∙ c.requires.no_turn.1 in
    let r = c.self.invariant in (
      ap (λ k. k.turn_id) c.pass.view_is ∙ c.requires.this_turn.0 ∙ sym c.self.view_is,
      ap (λ k. k.turn_id) c.other.view_is ∙ c.requires.this_turn.1 ∙ sym c.self.view_is,
      q.slot ∙ ap carried idle',
      omega arith,
      joins g.T.Storied.head g.T.Storied.entries g.T.Storied.owner _ _ _ _ p.live q.live p.drawn q.drawn idle idle' (q.ticket idle'),
    )

pub load-requires : goal.load-requires
load-requires g c =
    let e = c.join_seat.ensures in
    let r = c.self.invariant in (
      e.0 ∙ ap (λ k. k.turn_id) c.pass.view_is ∙ c.requires.this_turn.0 ∙ sym c.self.view_is,
      omega arith,
      compares g.T.Storied.head g.T.Storied.entries g.T.Storied.owner _ _ _ (ap (λ m. m.0.live) e.2 ∙ c.pass.invariant.live),
    )
