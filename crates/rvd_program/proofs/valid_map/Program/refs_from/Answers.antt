use Rattle.std.proofs.Common.{◌≡◌, ap, ◌∙◌, subst}
use Rattle.std.specs.Prelude.{T, IfOk}
use Rattle.std.specs.FinMap.{is_sorted}
use Rattle.std.specs.declared.cmp.Ordering.{Ordering}
use Rattle.rvd_table.specs.Table.{entries_from}
use Rattle.rvd_fact.specs.declared.keys.Kind.TheVariants as kind
use Rattle.rvd_fact.specs.declared.keys.Key.{Key}
use Rattle.rvd_fact.specs.Program.{Program}
use Rattle.rvd_fact.specs.Memory.{key_of, refs_from}
use Rattle.rvd_fact.proofs.DerivedOrder.{derived_is}
use Rattle.rvd_program.proofs.References.{refs_from-entries_from}
use Rattle.rvd_program.proofs.valid_map.Program.refs_from.Goals as goal

pub list_refs-requires : goal.list_refs-requires
list_refs-requires c = subst (λ (R : Key → Key → Ordering). T (is_sorted R c.entries_from.result.now)) derived_is c.entries_from.ensures.ordered

pub returns : goal.returns
returns c =
    let same : refs_from c.entries_from.result.now c.args.at ≡ refs_from c.args.self.now c.args.at =
    ap (λ (es : Program). refs_from es c.args.at) (c.entries_from.ensures.value ∙ ap (λ (R : Key → Key → Ordering). entries_from R (key_of kind.Ref c.args.at) c.self.inside.cells) derived_is)
    ∙ refs_from-entries_from c.args.at c.self.inside.cells c.self.invariant
    ∙ ap (λ (es : Program). refs_from es c.args.at) c.self.view_is in
    subst (λ refs. IfOk c.list_refs.result (λ list. list.items ≡ refs)) same c.list_refs.ensures
