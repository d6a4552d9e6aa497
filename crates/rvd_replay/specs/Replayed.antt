-- Which texts are those of a program's journals. Use `IsReplayed` for a text that begins with the text of a legal journal,
-- `DiffersAt` for the first line of another text that is no such journal's, and `HasNoJournal` for what follows of that text.
use Rattle.std.specs.Prelude.{◌≡◌, ℕ, ◌+◌, List, [], ◌∷◌, ◌++◌, length, None, ◌⊎◌}
use Rattle.std.specs.List.{AllByRecursion, enumerate_from}
use Rattle.rvd_fact.specs.Program.{Program}
use Rattle.rvd_event.specs.declared.queries.Names.{Names}
use Rattle.rvd_journal.specs.declared.entries.Entry.{Entry}
use Rattle.rvd_journal_text.specs.Lines.{end_line, entry_lines, full_line, head_line, journal_text}
use Rattle.rvd_line_reading.specs.Front.{AreNames, BeginsWith, HasNoHead}
use Rattle.rvd_line_reading.specs.Lines.{IsInRange}
use Rattle.rvd_machine.specs.Steps.{Head, IsLegal, IsStep, state}
use Rattle.rvd_desk.specs.Story.{Story}
use Rattle.rvd_replay.specs.declared.replaying.Replayed.{Replayed}
use Rattle.rvd_replay.specs.declared.replaying.Replayed.TheVariants.{Done, Differs}

-- the head of a run over a program with these sessions and workers
abbrev pub head_for : Program → Names → Head
head_for P names = record { program = P; sessions = names.sessions; workers = names.workers }

-- a journal of a program: it is legal from a head with the program, and the parts of its entries are in their ranges
pub record IsJournalOf (P : Program) (names : Names) (entries : List Entry) : Type 0 where
  pub known : AreNames names
  pub legal : IsLegal (head_for P names) entries
  pub range : AllByRecursion (IsInRange names) entries

-- the text of a journal up to its end line
abbrev pub text_before : Names → List Entry → List ℕ
text_before names entries = head_line names ++ 10 ∷ [] ++ entry_lines names (enumerate_from 1 entries)

-- a text begins with the text of a journal, which a running desk has
pub record IsReplayed (P : Program) (text : List ℕ) (d : Story) : Type 0 where
  pub names : Names
  pub head : d.head ≡ head_for P names
  pub running : d.halt ≡ None
  pub journal : IsJournalOf P names d.journal
  pub begins : BeginsWith text (journal_text names d.journal)

-- a text begins with the text of a journal up to its end line, and goes on neither with the end line nor with the line of an
-- entry that is a step
pub record DiffersBehind (P : Program) (text : List ℕ) (line : ℕ) : Type 0 where
  pub names : Names
  pub before : List Entry
  pub journal : IsJournalOf P names before
  pub number : line ≡ length before + 2
  pub rest : List ℕ
  pub is_text : text ≡ text_before names before ++ rest
  pub no_end : BeginsWith rest (end_line (length before) ++ 10 ∷ []) → ⊥
  pub no_step : (e : Entry) → IsInRange names e → IsStep (state (head_for P names) before) e → BeginsWith rest (full_line names (length before + 1, e)) → ⊥

-- the first line that is missing, outside the grammar or no step
abbrev pub DiffersAt : Program → List ℕ → ℕ → Type 0
DiffersAt P text line = ((line ≡ 1) × HasNoHead text) ⊎ DiffersBehind P text line

-- a text begins with the text of no journal
abbrev pub HasNoJournal : Program → List ℕ → Type 0
HasNoJournal P text = (names : Names) (entries : List Entry) → IsJournalOf P names entries → BeginsWith text (journal_text names entries) → ⊥

abbrev pub IsOutcome : Program → List ℕ → Replayed → Type 0
IsOutcome P text (Done d) = IsReplayed P text d
IsOutcome P text (Differs line) = DiffersAt P text line × HasNoJournal P text
