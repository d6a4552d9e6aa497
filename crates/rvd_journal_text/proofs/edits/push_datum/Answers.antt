use Rattle.std.proofs.Common.{◌++◌, [], ◌∷◌, codes, append_assoc}
use Rattle.rvd_text.specs.Hex.{hex8}
use Rattle.rvd_journal_text.proofs.Fronts.{OnErr-front}
use Rattle.rvd_journal_text.proofs.edits.push_datum.Goals as goal

pub returns-clause-err : goal.returns-clause-err
returns-clause-err c =
    OnErr-front c.args.out.now.items ((codes "data " ++ hex8 c.args.at) ++ 32 ∷ []) c.push.new.self.items c.push_form.new.out.items c.push_form.result
    (rw (c.in_ok-push.ensures.items, c.in_ok-push_at.ensures.ok) (append_assoc c.args.out.now.items (codes "data " ++ hex8 c.args.at) (32 ∷ [])))
    c.push_form.ensures.err
