use Rattle.std.proofs.Common.{◌∙◌, ap, Some}
use Rattle.rvd_program.proofs.Changed.{found_is}
use Rattle.rvd_program.proofs.kept.cell_in.Goals as goal

pub returns-in-None : goal.returns-in-None
returns-in-None c = found_is c.args.cells.now c.args.key.now _ c.in-None.ensures

pub returns-in-Some : goal.returns-in-Some
returns-in-Some c = found_is c.args.cells.now c.args.key.now _ (ap Some c.cell.ensures ∙ c.in-Some.ensures)
