use Rattle.rvd_program.proofs.Changed.{removed_is, set_is}
use Rattle.rvd_program.proofs.kept.put_in.Goals as goal

pub returns-in_ok-unset-in-None-clause-ok : goal.returns-in_ok-unset-in-None-clause-ok
returns-in_ok-unset-in-None-clause-ok c = removed_is c.args.cells.now c.unset.new.self c.args.key.now c.args.cell.now c.in_ok-unset-in-None.ensures.ok c.in-None.is

pub returns-in_ok-set-in-Some-clause-ok : goal.returns-in_ok-set-in-Some-clause-ok
returns-in_ok-set-in-Some-clause-ok c = set_is c.args.cells.now c.set.new.self c.args.key.now c.args.cell.now c.in_ok-cell-in-Some.cell c.in-Some.cell c.in_ok-set-in-Some.ensures.ok c.in-Some.is c.in_ok-cell-in-Some.ensures
