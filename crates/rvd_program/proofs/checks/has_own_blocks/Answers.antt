use Rattle.std.proofs.Common.{◌∙◌}
use Rattle.std.proofs.lemmas.Bool.{eq-eqb}
use Rattle.rvd_fact.specs.Memory.{block_len}
use Rattle.rvd_program.proofs.Ranges.{free_of_none}
use Rattle.rvd_program.proofs.checks.has_own_blocks.Goals as goal

pub returns-then-n-eq0 : goal.returns-then-n-eq0
returns-then-n-eq0 c = eq-eqb c.args.n 0 c.if-n-eq0.true ∙ free_of_none block_len c.args.entries.now c.args.at c.args.n c.if-n-eq0.true
