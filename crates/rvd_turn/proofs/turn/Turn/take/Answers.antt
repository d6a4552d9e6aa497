use Rattle.std.proofs.Common.{◌≡◌, ℕ, List, ◌∷◌, Some, All, sym, ap, ◌∙◌, subst}
use Rattle.std.proofs.lemmas.Option.{same_Some}
use Rattle.atomic_table.specs.Table.{rest}
use Rattle.rvd_turn.specs.Known.{Known}
use Rattle.rvd_turn.specs.Story.{owned}
use Rattle.rvd_turn.proofs.Lists.{slot_value}
use Rattle.rvd_turn.proofs.Told.{tells}
use Rattle.rvd_turn.proofs.turn.Turn.take.Goals as goal

pub exchange-found-requires : goal.exchange-found-requires
exchange-found-requires g c =
    let e = c.wait_turn.ensures in
    let here = ap (λ m. m.1) e.got.2 in
    (e.same.0 ∙ ap (λ k. k.turn_id) c.pass.view_is ∙ c.requires.this_turn ∙ sym c.self.view_is, (Some e.got.1, here ∙ ap (λ l. (0, Some e.got.1) ∷ l) (sym (ap rest here))))

pub returns-clause-met : goal.returns-clause-met
returns-clause-met g c =
    let got = c.wait_turn.ensures.got in
    let same = same_Some got.1 c.in-Some.value (slot_value 0 0 (Some got.1) c.exchange-found.result _ _ (sym (ap (λ m. m.1) got.2) ∙ c.exchange-found.ensures.2) ∙ c.in-Some.is) in
    let told = tells g.T.Storied.head g.T.Storied.entries g.T.Storied.owner c.pass.inside.seat.table_id c.pass.inside.seat.me.0 got.1 got.3 in
    let P : Known g.row.T-Head.Denot g.row.T-Entry.Denot × g.row.T.Denot → Type 0 = λ z. All (λ (m : ℕ × List g.row.T-Entry.Denot). owned g.T.Storied.owner m.0 (g.T.Storied.entries z.1) ≡ m.1) z.0.met in
    subst P (λ i. (c.pass.view_is i, same i)) told.3
