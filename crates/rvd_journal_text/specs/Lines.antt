-- The text of a journal: a head line with the numbers of sessions and workers, a line for each entry with its number, counted
-- from 1, and a last line with the number of entries. Use `journal_text` for all of it, and `entry_line` for the line of an
-- entry without its line feed.
use Rattle.std.specs.Prelude.{ℕ, List, [], ◌∷◌, ◌++◌, flat_map, length, Option, None, Some, codes}
use Rattle.std.specs.List.{enumerate_from}
use Rattle.std.specs.Fmt.{decimal}
use Rattle.rvd_event.specs.declared.queries.Names.{Names}
use Rattle.rvd_journal.specs.declared.entries.Entry.{Entry}
use Rattle.rvd_notation.specs.Actors.{actor_text}
use Rattle.rvd_journal_text.specs.Events.{event_text}
use Rattle.rvd_journal_text.specs.Replies.{reply_text}

-- the Settled step that a call brought about, if any
abbrev pub settled_text : Option ℕ → List ℕ
settled_text None = []
settled_text (Some step) = codes "; settled " ++ decimal step

-- who called, and what was asked and answered
unfoldable pub call_text : Names → Entry → List ℕ
call_text names entry = actor_text names entry.actor ++ codes " " ++ event_text entry.event ++ codes " = " ++ reply_text entry.reply

-- the line of an entry with its number, without the line feed
unfoldable pub entry_line : Names → ℕ → Entry → List ℕ
entry_line names number entry = decimal number ++ codes " " ++ call_text names entry ++ settled_text entry.settled

-- the first line and the last one, without the line feed
unfoldable pub head_line : Names → List ℕ
head_line names = codes "journal 1 " ++ decimal names.sessions ++ codes " " ++ decimal names.workers

abbrev pub end_line : ℕ → List ℕ
end_line count = codes "end " ++ decimal count

-- the line of an entry with its number and its line feed
unfoldable pub full_line : Names → ℕ × Entry → List ℕ
full_line names numbered = entry_line names numbered.0 numbered.1 ++ 10 ∷ []

-- the lines of entries with their numbers
abbrev pub entry_lines : Names → List (ℕ × Entry) → List ℕ
entry_lines names entries = flat_map (full_line names) entries

unfoldable pub journal_text : Names → List Entry → List ℕ
journal_text names entries = head_line names ++ 10 ∷ [] ++ entry_lines names (enumerate_from 1 entries) ++ end_line (length entries) ++ 10 ∷ []
