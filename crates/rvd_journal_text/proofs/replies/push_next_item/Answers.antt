use Rattle.std.proofs.Common.{◌++◌, [], ◌∷◌, append_assoc}
use Rattle.rvd_notation.specs.Actors.{analyzer_word}
use Rattle.rvd_journal_text.proofs.Fronts.{OnErr-front}
use Rattle.rvd_journal_text.proofs.replies.push_next_item.Goals as goal

pub returns-clause-err : goal.returns-clause-err
returns-clause-err c =
    OnErr-front c.args.out.now.items (32 ∷ [] ++ analyzer_word c.args.item.analyzer) c.extend_from_slice.new.self.items c.push_at.new.out.items c.push_at.result
    (rw (c.in_ok-extend_from_slice.ensures.items, c.analyzer_word.ensures, c.in_ok-push.ensures.items) (simp append_assoc))
    c.push_at.ensures.err
