use Rattle.std.proofs.Common.{◌∙◌, append_assoc}
use Rattle.rvd_journal_text.proofs.Fronts.{OnOk-along}
use Rattle.rvd_journal_text.proofs.edits.push_block.Goals as goal

pub returns-clause-ok : goal.returns-clause-ok
returns-clause-ok c = OnOk-along c.push_spaced.result (λ e. e ∙ (rw (c.perm_word.ensures, c.in_ok-push_at-2.ensures.ok, c.in_ok-push_at.ensures.ok) (simp append_assoc))) c.push_spaced.ensures.ok
