use Rattle.std.proofs.Common.{◌∙◌, [], ◌∷◌, Ok, sym, ap}
use Rattle.rvd_edit.specs.Changes.{set}
use Rattle.rvd_edit.specs.Edits.{block_edit}
use Rattle.rvd_edit.specs.Spaces.{in_space, no_block_met, one_block_more}
use Rattle.rvd_edit.proofs.StepLemmas.{three_passed}
use Rattle.rvd_edit.proofs.edits.block_changes.Goals as goal

pub returns : goal.returns
unfolding block_edit
returns c =
    let change = c.in_ok-set.ensures ∙ ap (λ k. set c.args.program.now k c.uninitialised-value.result) c.key_at.ensures ∙ ap (set c.args.program.now _) c.uninitialised-value.ensures in
    three_passed (in_space c.args.at c.args.len) (no_block_met c.args.program.now c.args.at c.args.len) (one_block_more c.args.program.now) _ (sym c.in_ok-check_in_space.ensures) (sym c.in_ok-check_no_block_met.ensures) (sym c.in_ok-check_one_block_more.ensures)
    ∙ ap Ok (sym (c.in_ok-just.ensures ∙ ap (λ x. x ∷ []) change))
