-- The text of a journal, part by part. Use `journal_first` where it stands at the front of a text.
use Rattle.std.proofs.Common.{◌≡◌, ℕ, List, [], ◌∷◌, ◌++◌, length, sym, ap, ◌∙◌, append_assoc}
use Rattle.std.specs.List.{enumerate_from}
use Rattle.rvd_event.specs.declared.queries.Names.{Names}
use Rattle.rvd_journal.specs.declared.entries.Entry.{Entry}
use Rattle.rvd_journal_text.specs.Lines.{end_line, entry_lines, head_line, journal_text}

pub journal_first : (names : Names) (entries : List Entry) (tail : List ℕ)
    → journal_text names entries ++ tail ≡ (head_line names ++ 10 ∷ []) ++ (entry_lines names (enumerate_from 1 entries) ++ ((end_line (length entries) ++ 10 ∷ []) ++ tail))
unfolding journal_text
journal_first names entries tail =
    let head = head_line names ++ 10 ∷ [] in
    let lines = entry_lines names (enumerate_from 1 entries) in
    let end = end_line (length entries) in
    append_assoc ((head ++ lines) ++ end) (10 ∷ []) tail
    ∙ append_assoc (head ++ lines) end (10 ∷ tail)
    ∙ append_assoc head lines (end ++ 10 ∷ tail)
    ∙ ap (λ (t : List ℕ). head ++ (lines ++ t)) (sym (append_assoc end (10 ∷ []) tail))
