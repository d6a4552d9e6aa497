use Rattle.std.proofs.Common.{◌≡◌, ◌++◌, ◌∙◌}
use Rattle.rvd_ask.specs.declared.asks.Analyzer.TheVariants.{Flow}
use Rattle.rvd_ask.specs.Answers.{told}
use Rattle.rvd_ask.specs.Rules.{asks}
use Rattle.rvd_ask.specs.Wake.{item}
use Rattle.rvd_ask.proofs.Proposing.{held, in_order, just_these, keeps_told}
use Rattle.rvd_an_flow.specs.Parts.{first_decided}
use Rattle.rvd_an_flow.proofs.Locality.{local, whole_changes, whole_reads}
use Rattle.rvd_an_flow.proofs.rule.FlowRuleRule.propose.Given as given
use Rattle.rvd_an_flow.proofs.rule.FlowRuleRule.propose.Goals as goal

-- what was asked is what the rule asks
heard : (g : given.Over) (c : goal.After-drop-starts-2 g) → c.add_first.new.reads.items ≡ told (g.V.View.program c.args.view.now) (asks (g.V.View.program c.args.view.now) (item Flow c.args.at))
heard g c =
    whole_reads (g.V.View.program c.args.view.now) c.args.at c.new-reads.result.items c.starts.new.reads.items c.add_first.new.reads.items c.as_slice.result.now c.new-reads.ensures.items c.in_ok-starts.ensures.reads c.in_ok-add_first.ensures.reads (c.as_slice.ensures.value ∙ c.in_ok-starts.ensures.starts)

pub of-requires : goal.of-requires
of-requires g c =
    let P = g.V.View.program c.args.view.now in
    let same_starts = c.as_slice.ensures.value ∙ c.in_ok-starts.ensures.starts in
    keeps_told P (item Flow c.args.at) c.add_first.new.reads.items c.add_first.new.changes.items (local P c.args.at)
    (whole_reads P c.args.at c.new-reads.result.items c.starts.new.reads.items c.add_first.new.reads.items c.as_slice.result.now c.new-reads.ensures.items c.in_ok-starts.ensures.reads c.in_ok-add_first.ensures.reads same_starts)
    (c.in_ok-add_first.ensures.changes ∙ (λ i. c.new-changes.ensures.items i ++ first_decided P (same_starts i)) ∙ whole_changes P c.args.at)

pub returns-clause-hold : goal.returns-clause-hold
returns-clause-hold g c = held (g.V.View.program c.args.view.now) (item Flow c.args.at) c.of.result c.add_first.new.reads.items c.add_first.new.changes.items c.of.ensures (heard g c)

pub returns-clause-asked : goal.returns-clause-asked
returns-clause-asked g c = just_these (g.V.View.program c.args.view.now) (item Flow c.args.at) c.of.result c.add_first.new.reads.items c.add_first.new.changes.items c.of.ensures (heard g c)

pub returns-clause-order : goal.returns-clause-order
returns-clause-order g c = in_order (g.V.View.program c.args.view.now) (item Flow c.args.at) c.of.result c.add_first.new.reads.items c.add_first.new.changes.items c.of.ensures (heard g c)
