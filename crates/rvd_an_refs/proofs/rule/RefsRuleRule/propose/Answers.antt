use Rattle.std.proofs.Common.{◌≡◌}
use Rattle.rvd_ask.specs.declared.asks.Analyzer.TheVariants.{Refs}
use Rattle.rvd_ask.specs.Answers.{told}
use Rattle.rvd_ask.specs.Refs.{refs_asks, refs_rule}
use Rattle.rvd_ask.specs.Rules.{asks, rule}
use Rattle.rvd_ask.specs.Wake.{item}
use Rattle.rvd_ask.proofs.Proposing.{from_empty, held, in_order, just_these, keeps_told}
use Rattle.rvd_an_refs.proofs.Locality.{local}
use Rattle.rvd_an_refs.proofs.rule.RefsRuleRule.propose.Given as given
use Rattle.rvd_an_refs.proofs.rule.RefsRuleRule.propose.Goals as goal

-- what was asked is what the rule asks
heard : (g : given.Over) (c : goal.After-of g) → c.find_references.new.reads.items ≡ told (g.V.View.program c.args.view.now) (asks (g.V.View.program c.args.view.now) (item Refs c.args.at))
unfolding asks
heard g c =
    from_empty c.new-reads.result.items c.find_references.new.reads.items (told (g.V.View.program c.args.view.now) (refs_asks (g.V.View.program c.args.view.now) c.args.at)) c.new-reads.ensures.items c.in_ok-find_references.ensures.reads

pub of-requires : goal.of-requires
unfolding rule asks
of-requires g c =
    let P = g.V.View.program c.args.view.now in
    let reads = c.find_references.new.reads.items in
    let changes = c.find_references.new.changes.items in
    keeps_told P (item Refs c.args.at) reads changes (local P c.args.at)
    (from_empty c.new-reads.result.items reads (told P (refs_asks P c.args.at)) c.new-reads.ensures.items c.in_ok-find_references.ensures.reads)
    (from_empty c.new-changes.result.items changes (refs_rule P c.args.at) c.new-changes.ensures.items c.in_ok-find_references.ensures.changes)

pub returns-clause-hold : goal.returns-clause-hold
returns-clause-hold g c = held (g.V.View.program c.args.view.now) (item Refs c.args.at) c.of.result c.find_references.new.reads.items c.find_references.new.changes.items c.of.ensures (heard g c)

pub returns-clause-asked : goal.returns-clause-asked
returns-clause-asked g c = just_these (g.V.View.program c.args.view.now) (item Refs c.args.at) c.of.result c.find_references.new.reads.items c.find_references.new.changes.items c.of.ensures (heard g c)

pub returns-clause-in_order : goal.returns-clause-in_order
returns-clause-in_order g c = in_order (g.V.View.program c.args.view.now) (item Refs c.args.at) c.of.result c.find_references.new.reads.items c.find_references.new.changes.items c.of.ensures (heard g c)
