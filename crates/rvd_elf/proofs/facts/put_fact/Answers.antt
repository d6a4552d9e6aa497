use Rattle.std.proofs.Common.{◌∙◌}
use Rattle.rvd_elf.specs.Facts.{imported}
use Rattle.rvd_elf.proofs.Placing.{insert_is_put}
use Rattle.rvd_elf.proofs.facts.put_fact.Goals as goal

pub returns : goal.returns
returns c = c.in_ok-insert.ensures.entries ∙ insert_is_put c.args.key (imported c.args.value) c.args.cells.now.entries
