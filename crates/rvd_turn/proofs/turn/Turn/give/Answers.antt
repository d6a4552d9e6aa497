use Rattle.std.proofs.Common.{ℕ, ◌∷◌, List, Some, sym, ap, ◌∙◌, subst, arith}
use Rattle.atomic_table.specs.Table.{rest}
use Rattle.rvd_turn.specs.Known.{carried}
use Rattle.rvd_turn.specs.Story.{Continues}
use Rattle.rvd_turn.proofs.Giving.{serves}
use Rattle.rvd_turn.proofs.turn.Turn.give.Goals as goal

pub fetch_add-requires : goal.fetch_add-requires
fetch_add-requires g c =
    let r = c.self.invariant in
    let p = c.pass.invariant in
    let is = c.pass.view_is in
    let e = c.exchange-found.ensures in
    let turn = ap (λ k. k.turn) is ∙ c.requires.turn in
    let number = ap (λ m. m.0.number) e.3 ∙ ap (λ k. k.number) is in
    let seen = ap (λ m. m.0.seen) e.3 ∙ ap (λ k. k.seen) is in
    let holds = p.slot ∙ ap carried turn in (
      e.0 ∙ ap (λ k. k.turn_id) is ∙ c.requires.this_turn ∙ sym c.self.view_is,
      omega arith,
      serves g.T.Storied.head g.T.Storied.entries g.T.Storied.owner _ _ _ c.args.value
          (ap (λ m. m.0.live) e.3 ∙ p.live)
          (ap (λ m. m.0.turn) e.3 ∙ turn)
          (ap (λ m. m.1) e.3 ∙ ap (λ l. (0, Some c.args.value) ∷ rest l) holds)
          (ap (λ m. m.0.head) e.3 ∙ ap (λ k. k.head) is ∙ c.requires.head)
          (subst (λ (z : ℕ × List g.row.T-Entry.Denot). Continues g.T.Storied.owner z.0 z.1 (g.T.Storied.entries c.args.value)) (λ i. (sym number i, sym seen i)) c.requires.entries),
    )
