use Rattle.std.proofs.Common.{Some, None, ap, ◌∙◌}
use Rattle.rvd_table.specs.Table.{next_entry}
use Rattle.rvd_fact.specs.declared.keys.Key.{Key}
use Rattle.rvd_fact.specs.contracts.keys.KeyOrd.TheImpl.{cmp-value}
use Rattle.rvd_program.proofs.Nearest.{next_block_is}
use Rattle.rvd_program.proofs.near.next_address.Goals as goal

pub returns-in-None : goal.returns-in-None
returns-in-None c = next_block_is c.args.cells.now c.args.from None c.requires.in_order (c.in-None.ensures ∙ ap (λ (k : Key). next_entry cmp-value.it k c.args.cells.now) c.block_key.ensures)

pub returns-in-Some : goal.returns-in-Some
returns-in-Some c = next_block_is c.args.cells.now c.args.from (Some _) c.requires.in_order (c.in-Some.ensures ∙ ap (λ (k : Key). next_entry cmp-value.it k c.args.cells.now) c.block_key.ensures)
