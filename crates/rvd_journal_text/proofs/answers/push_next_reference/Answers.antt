use Rattle.std.proofs.Common.{[], ◌∷◌}
use Rattle.rvd_journal_text.proofs.Fronts.{OnErr-front}
use Rattle.rvd_journal_text.proofs.answers.push_next_reference.Goals as goal

pub returns-clause-err : goal.returns-clause-err
returns-clause-err c = OnErr-front c.args.out.now.items (44 ∷ []) c.push.new.self.items c.push_reference.new.out.items c.push_reference.result c.in_ok-push.ensures.items c.push_reference.ensures.err
