use Rattle.std.proofs.Common.{◌++◌, [], ◌∷◌, append_assoc}
use Rattle.std.specs.Fmt.{decimal}
use Rattle.rvd_notation.specs.Words.{class_word}
use Rattle.rvd_journal_text.proofs.Fronts.{OnErr-front}
use Rattle.rvd_journal_text.proofs.answers.push_reference.Goals as goal

pub returns-clause-err : goal.returns-clause-err
returns-clause-err c =
    OnErr-front c.args.out.now.items (decimal c.from.result ++ (58 ∷ [] ++ class_word c.args.reference.1)) c.extend_from_slice.new.self.items c.push_at.new.out.items c.push_at.result
    (rw (c.in_ok-extend_from_slice.ensures.items, c.class_word.ensures, c.in_ok-push.ensures.items, c.in_ok-push_dec.ensures.ok) (simp append_assoc))
    c.push_at.ensures.err
