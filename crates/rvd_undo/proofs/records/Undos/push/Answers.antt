use Rattle.std.proofs.Common.{rules, arith}
use Rattle.std.proofs.lemmas.Grind.{common_steps}
use Rattle.rvd_undo.proofs.Histories.{push_is_commit}
use Rattle.rvd_undo.proofs.records.Undos.push.Goals as goal

pub returns-clause-commit : goal.returns-clause-commit
returns-clause-commit c = push_is_commit c.args.self.now.records _ c.args.changes.items (first_of (search rules, grind (arith, common_steps)))
