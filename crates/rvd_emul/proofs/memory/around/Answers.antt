use Rattle.std.proofs.Common.{◌≡◌, Some, sym, ap, ◌∙◌}
use Rattle.std.proofs.lemmas.Option.{none-some}
use Rattle.rvd_fact.specs.Program.{cell_at}
use Rattle.rvd_fact.specs.Memory.{block_key}
use Rattle.rvd_emul.proofs.Blocks.{around_cell, around_is, around_none, around_within}
use Rattle.rvd_emul.proofs.memory.around.Goals as goal

pub returns-in_err-start-clause-value : goal.returns-in_err-start-clause-value
returns-in_err-start-clause-value c =
    rw c.from_residual.ensures (sym (around_none c.args.program.now c.args.at (sym c.in_err-start.ensures)))

pub returns-in_err-cell-clause-value : goal.returns-in_err-cell-clause-value
returns-in_err-cell-clause-value c =
    let S = c.args.program.now in
    let b = around_cell S c.cell.ensures.valid c.args.at c.in_ok-start.start (sym c.in_ok-start.ensures) in
    absurd (none-some b.cell (c.in_err-cell.ensures.cell ∙ ap (cell_at S) c.block_key.ensures ∙ b.here))

pub returns-clause-value : goal.returns-clause-value
returns-clause-value c =
    let S = c.args.program.now in
    let here : cell_at S (block_key c.in_ok-start.start) ≡ Some c.in_ok-cell.cell.now = ap (cell_at S) (sym c.block_key.ensures) ∙ sym c.in_ok-cell.ensures.cell in
    sym (around_is S c.cell.ensures.valid c.args.at c.in_ok-start.start c.in_ok-cell.cell.now (sym c.in_ok-start.ensures) here)

pub returns-clause-below : goal.returns-clause-below
returns-clause-below c =
    let b = around_cell c.args.program.now c.cell.ensures.valid c.args.at c.in_ok-start.start (sym c.in_ok-start.ensures) in
    b.below

pub returns-clause-within : goal.returns-clause-within
returns-clause-within c =
    let S = c.args.program.now in
    let here : cell_at S (block_key c.in_ok-start.start) ≡ Some c.in_ok-cell.cell.now = ap (cell_at S) (sym c.block_key.ensures) ∙ sym c.in_ok-cell.ensures.cell in
    around_within S c.cell.ensures.valid c.args.at c.in_ok-start.start c.in_ok-cell.cell.now (sym c.in_ok-start.ensures) here
