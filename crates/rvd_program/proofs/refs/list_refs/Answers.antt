use Rattle.std.proofs.Common.{◌<◌, ◌∙◌, subst, arith}
use Rattle.std.proofs.lemmas.Grind.{common_steps}
use Rattle.std.proofs.lemmas.List.Elements.{filter_map-append}
use Rattle.rvd_fact.specs.declared.keys.Key.{Key}
use Rattle.rvd_fact.specs.declared.cells.Cell.{Cell}
use Rattle.rvd_program.proofs.References.{refs_from-take}
use Rattle.rvd_program.proofs.refs.list_refs.Goals as goal

pub loop-entry-preserved : goal.loop-entry-preserved
loop-entry-preserved c = grind (arith, common_steps, filter_map-append)

pub returns-then-entry-at : goal.returns-then-entry-at
returns-then-entry-at c =
    c.loop-entry.invariant
    ∙ refs_from-take c.args.at c.args.entries.now c.loop-entry.entry-index c.entry-item.result c.requires c.loop-entry-test.true
    (subst (λ (e : Key × Cell). c.args.at < e.0.at) c.entry-item.is c.if-entry-at.true)
