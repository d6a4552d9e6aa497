use Rattle.std.proofs.Common.{◌≡◌, List, [], ◌∷◌, ◌++◌, Option, Some, sym, ap, ◌∙◌, subst}
use Rattle.rvd_turn.specs.Rule.{Kept}
use Rattle.rvd_turn.specs.Views.{opener}
use Rattle.atomic_table.specs.Table.{opening}
use Rattle.rvd_turn.proofs.Opening.{opens}
use Rattle.rvd_turn.proofs.turn.Turn.new.Goals as goal

pub new-requires : goal.new-requires
new-requires g c =
    let items : c.push.new.self.items ≡ Some c.args.value ∷ [] = c.in_ok-push.ensures.items ∙ ap (λ l. l ++ Some c.args.value ∷ []) c.new-slots.ensures.items in
    let about = c.of-about.ensures in
    let P : List (Option g.row.T.Denot) × g.row.T.Denot → Type 0 = λ z. Kept g.T.Storied.head g.T.Storied.entries g.T.Storied.owner (opening (0 ∷ 0 ∷ 1 ∷ []) z.0 (opener (g.T.Storied.head z.1))) in
    subst P (λ i. (sym items i, sym about i)) (opens g.T.Storied.head g.T.Storied.entries g.T.Storied.owner c.args.value c.requires)
