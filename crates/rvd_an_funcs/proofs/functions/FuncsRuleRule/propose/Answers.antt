use Rattle.rvd_ask.specs.declared.asks.Analyzer.TheVariants.{Funcs}
use Rattle.rvd_ask.specs.Wake.{item}
use Rattle.rvd_ask.proofs.Proposing.{held, in_order, just_these, keeps_told}
use Rattle.rvd_an_funcs.proofs.FuncsLocality.{all_found, all_heard, funcs_local}
use Rattle.rvd_an_funcs.proofs.functions.FuncsRuleRule.propose.Goals as goal

pub of-requires : goal.of-requires
of-requires g c =
    let P = g.V.View.program c.args.view.now in
    keeps_told P (item Funcs c.args.at) _ _ (funcs_local P c.args.at)
    (all_heard P c.args.at _ _ c.new-reads.ensures.items c.in_ok-find_function.ensures.reads)
    (all_found P c.args.at _ _ c.new-changes.ensures.items c.in_ok-find_function.ensures.changes)

pub returns-clause-hold : goal.returns-clause-hold
returns-clause-hold g c =
    let P = g.V.View.program c.args.view.now in
    held P (item Funcs c.args.at) c.of.result _ _ c.of.ensures (all_heard P c.args.at _ _ c.new-reads.ensures.items c.in_ok-find_function.ensures.reads)

pub returns-clause-asked : goal.returns-clause-asked
returns-clause-asked g c =
    let P = g.V.View.program c.args.view.now in
    just_these P (item Funcs c.args.at) c.of.result _ _ c.of.ensures (all_heard P c.args.at _ _ c.new-reads.ensures.items c.in_ok-find_function.ensures.reads)

pub returns-clause-in_order : goal.returns-clause-in_order
returns-clause-in_order g c =
    let P = g.V.View.program c.args.view.now in
    in_order P (item Funcs c.args.at) c.of.result _ _ c.of.ensures (all_heard P c.args.at _ _ c.new-reads.ensures.items c.in_ok-find_function.ensures.reads)
