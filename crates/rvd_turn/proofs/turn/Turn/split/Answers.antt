use Rattle.std.proofs.Common.{◌<◌, ◌^◌, sym, ap, ◌∙◌, subst, arith}
use Rattle.rvd_turn.proofs.Splitting.{numbers, splits}
use Rattle.rvd_turn.proofs.turn.Turn.split.Goals as goal

pub fetch_add-requires : goal.fetch_add-requires
fetch_add-requires g c =
    let is = c.pass.view_is in
    let made = ap (λ p. p.made) is in
    let r = c.self.invariant in (
      ap (λ p. p.turn_id) is ∙ c.requires.this_turn ∙ sym c.self.view_is,
      omega arith,
      numbers g.T.Storied.head g.T.Storied.entries g.T.Storied.owner _ _ _ c.pass.invariant.live (subst (λ n. 0 < n) (sym made) c.requires.holds_zero) c.pass.invariant.drawn (subst (λ n. n < 2 ^ 63) (sym made) c.requires.few),
    )

pub split_seat-seat-requires : goal.split_seat-seat-requires
split_seat-seat-requires g c =
    let is = c.pass.view_is in
    let e = c.fetch_add.ensures in
    let made = ap (λ m. m.0.made) e.2 ∙ ap (λ p. p.made) is in
    let r = c.self.invariant in (
      e.0 ∙ ap (λ p. p.turn_id) is ∙ c.requires.this_turn ∙ sym c.self.view_is,
      omega arith,
      splits g.T.Storied.head g.T.Storied.entries g.T.Storied.owner _ _ (ap (λ m. m.0.live) e.2 ∙ c.pass.invariant.live) (subst (λ n. 0 < n) (sym made) c.requires.holds_zero) (ap (λ m. m.0.drawn) e.2),
    )
