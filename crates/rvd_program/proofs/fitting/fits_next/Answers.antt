use Rattle.std.proofs.Common.{◌≡◌, ◌∙◌, sym}
use Rattle.rvd_fact.specs.Program.{cell_at}
use Rattle.rvd_program.proofs.Deciding.{decides}
use Rattle.rvd_program.proofs.fitting.fits_next.Goals as goal

pub returns-clause-answer : goal.returns-clause-answer
returns-clause-answer c =
    let here : cell_at c.args.cells.now c.args.change.now.key ≡ c.args.change.now.before = sym c.cell_in.ensures ∙ c.same_cells.ensures.0 c.if-not-same_cells.false in
    let d = decides c.args.cells.now c.entries.result.now c.args.change.now.key c.args.change.now.after c.stays_valid.result c.requires (c.entries.ensures.value ∙ c.in_ok-put_in.ensures.ok) c.stays_valid.ensures in
    (λ t. (here, d.0 t), λ p. d.1 p.1)
