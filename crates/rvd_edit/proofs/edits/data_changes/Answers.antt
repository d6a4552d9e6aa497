use Rattle.std.proofs.Common.{◌∙◌, [], ◌∷◌, Ok, sym, ap}
use Rattle.rvd_fact.specs.Memory.{form_len}
use Rattle.rvd_fact.specs.declared.values.Value.TheVariants.{Plain}
use Rattle.rvd_edit.specs.Changes.{set}
use Rattle.rvd_edit.specs.Edits.{data_edit, form_size, has_memory}
use Rattle.rvd_edit.specs.Spaces.{aligned, no_unit_met}
use Rattle.rvd_edit.proofs.StepLemmas.{three_passed}
use Rattle.rvd_edit.proofs.edits.data_changes.Goals as goal

pub returns : goal.returns
unfolding data_edit
returns c =
    let change = c.in_ok-set.ensures ∙ ap (λ k. set c.args.program.now k (Plain c.args.form)) c.key_at.ensures in
    let even = ap (aligned c.args.at) (sym c.form_size.ensures.size) ∙ sym c.in_ok-check_aligned.ensures in
    let alone = ap (no_unit_met c.args.program.now c.args.at) (sym c.form_len.ensures) ∙ sym c.in_ok-check_no_unit_met.ensures in
    three_passed (aligned c.args.at (form_size c.args.form)) (has_memory c.args.program.now c.args.at c.args.form) (no_unit_met c.args.program.now c.args.at (form_len c.args.form)) _ even c.in_ok-check_has_memory.ensures alone
    ∙ ap Ok (sym (c.in_ok-just.ensures ∙ ap (λ x. x ∷ []) change))
