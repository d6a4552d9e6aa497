use Rattle.rvd_an_funcs.proofs.BodyLocality.{body_asked, body_held, body_promise}
use Rattle.rvd_an_funcs.proofs.body.BodyRuleRule.propose.Goals as goal

pub of-requires : goal.of-requires
of-requires g c =
    let found = c.in_ok-find_body.ensures in
    body_promise (g.V.View.program c.args.view.now) c.args.at _ _ c.new-reads.ensures.items found.reads found.valid _ _ c.new-changes.ensures.items found.changes

pub returns-clause-hold : goal.returns-clause-hold
returns-clause-hold g c = body_held (g.V.View.program c.args.view.now) c.args.at _ _ c.new-reads.ensures.items c.in_ok-find_body.ensures.reads c.of.result _ c.of.ensures

pub returns-clause-asked : goal.returns-clause-asked
returns-clause-asked g c = body_asked (g.V.View.program c.args.view.now) c.args.at _ _ c.new-reads.ensures.items c.in_ok-find_body.ensures.reads c.of.result _ c.of.ensures
