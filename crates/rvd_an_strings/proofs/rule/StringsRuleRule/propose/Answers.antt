use Rattle.std.proofs.Common.{◌≡◌}
use Rattle.std.proofs.lemmas.Bool.{OnTrue_at}
use Rattle.rvd_ask.specs.declared.asks.Analyzer.TheVariants.{Strings}
use Rattle.rvd_ask.specs.Answers.{told}
use Rattle.rvd_ask.specs.Strings.{strings_asks, strings_rule}
use Rattle.rvd_ask.specs.Rules.{asks, rule}
use Rattle.rvd_ask.specs.Wake.{item}
use Rattle.rvd_ask.proofs.Proposing.{from_empty, held, in_order, just_these, keeps_told}
use Rattle.rvd_an_strings.proofs.Locality.{local}
use Rattle.rvd_an_strings.proofs.rule.StringsRuleRule.propose.Given as given
use Rattle.rvd_an_strings.proofs.rule.StringsRuleRule.propose.Goals as goal

-- what was asked is what the rule asks
heard : (g : given.Over) (c : goal.After-of g) → c.find_string.new.reads.items ≡ told (g.V.View.program c.args.view.now) (asks (g.V.View.program c.args.view.now) (item Strings c.args.at))
unfolding asks
heard g c =
    from_empty c.new-reads.result.items c.find_string.new.reads.items (told (g.V.View.program c.args.view.now) (strings_asks (g.V.View.program c.args.view.now) c.args.at)) c.new-reads.ensures.items c.in_ok-find_string.ensures.reads

pub of-requires : goal.of-requires
unfolding rule asks
of-requires g c =
    let P = g.V.View.program c.args.view.now in
    let reads = c.find_string.new.reads.items in
    let changes = c.find_string.new.changes.items in
    keeps_told P (item Strings c.args.at) reads changes (local P c.args.at (λ read. OnTrue_at read c.in_ok-find_string.ensures.valid))
    (from_empty c.new-reads.result.items reads (told P (strings_asks P c.args.at)) c.new-reads.ensures.items c.in_ok-find_string.ensures.reads)
    (from_empty c.new-changes.result.items changes (strings_rule P c.args.at) c.new-changes.ensures.items c.in_ok-find_string.ensures.changes)

pub returns-clause-hold : goal.returns-clause-hold
returns-clause-hold g c = held (g.V.View.program c.args.view.now) (item Strings c.args.at) c.of.result c.find_string.new.reads.items c.find_string.new.changes.items c.of.ensures (heard g c)

pub returns-clause-asked : goal.returns-clause-asked
returns-clause-asked g c = just_these (g.V.View.program c.args.view.now) (item Strings c.args.at) c.of.result c.find_string.new.reads.items c.find_string.new.changes.items c.of.ensures (heard g c)

pub returns-clause-in_order : goal.returns-clause-in_order
returns-clause-in_order g c = in_order (g.V.View.program c.args.view.now) (item Strings c.args.at) c.of.result c.find_string.new.reads.items c.find_string.new.changes.items c.of.ensures (heard g c)
