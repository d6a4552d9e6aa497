use Rattle.std.proofs.Common.{Some, None}
use Rattle.rvd_program.proofs.Nearest.{last_unit_is}
use Rattle.rvd_program.proofs.near.last_address.Goals as goal

pub returns-in-None : goal.returns-in-None
returns-in-None c = last_unit_is c.args.cells.now c.args.from None c.requires.in_order (c.in-None.ensures)

pub returns-in-Some : goal.returns-in-Some
returns-in-Some c = last_unit_is c.args.cells.now c.args.from (Some _) c.requires.in_order (c.in-Some.ensures)
