use Rattle.std.proofs.Common.{List, ℕ, sym, ap, ◌∙◌, subst}
use Rattle.std.proofs.lemmas.Result.{on_ok_weaker}
use Rattle.rvd_fact.specs.Ranges.{AreRanges}
use Rattle.rvd_ask.specs.Body.{is_open}
use Rattle.rvd_ask.specs.Reach.{has, spans}
use Rattle.rvd_an_funcs.proofs.BodyAsks.{asks_kept, asks_none, asks_walked}
use Rattle.rvd_an_funcs.proofs.BodyFitting.{reach_ranges}
use Rattle.rvd_an_funcs.proofs.CodeOrder.{reach_ends}
use Rattle.rvd_an_funcs.proofs.body.find_body.Goals as goal

pub returns-then-not-branch-clause-reads : goal.returns-then-not-branch-clause-reads
returns-then-not-branch-clause-reads g c =
    let asked = c.in_ok-ask_function.ensures in
    asks_none (g.V.View.program c.args.view.now) c.args.at _ _ (sym asked.answer ∙ c.if-not-branch.true) asked.reads

pub returns-then-not-is_open-clause-reads : goal.returns-then-not-is_open-clause-reads
returns-then-not-is_open-clause-reads g c =
    let asked = c.in_ok-ask_function.ensures in
    let P = g.V.View.program c.args.view.now in
    let body = c.in_ok-body.ensures in
    asks_kept P c.args.at _ _ _ _ c.body_key.ensures (sym asked.answer ∙ c.if-not-branch.false) (ap is_open (sym body.answer) ∙ sym c.if-not-is_open.ensures) asked.reads body.reads

pub ranges_of-requires-clause-ends : goal.ranges_of-requires-clause-ends
ranges_of-requires-clause-ends g c =
    let P = g.V.View.program c.args.view.now in
    let members = c.deref.ensures.value ∙ c.in_ok-members.ensures.members in
    λ z h. reach_ends P c.args.at z c.in_ok-ask_function.ensures.valid (ap (has z) (sym members) ∙ h)

pub ranges_of-requires-clause-ranges : goal.ranges_of-requires-clause-ranges
ranges_of-requires-clause-ranges g c =
    let P = g.V.View.program c.args.view.now in
    let members = c.deref.ensures.value ∙ c.in_ok-members.ensures.members in
    subst (λ (zs : List ℕ). AreRanges (spans zs)) (sym members) (reach_ranges P c.args.at c.in_ok-ask_function.ensures.valid)

pub returns-clause-reads : goal.returns-clause-reads
returns-clause-reads g c =
    let asked = c.in_ok-ask_function.ensures in
    let P = g.V.View.program c.args.view.now in
    let body = c.in_ok-body.ensures in
    on_ok_weaker c.set_body.result (λ _.
    asks_walked P c.args.at _ _ _ _ _ c.body_key.ensures (sym asked.answer ∙ c.if-not-branch.false) (ap is_open (sym body.answer) ∙ sym c.if-not-is_open.ensures) asked.reads body.reads c.in_ok-members.ensures.reads)
    c.set_body.ensures
