-- The lines of a journal at the front of a text, each with its line feed. `IsHead` says what is left behind a head line, `IsNext`
-- what is left behind the line of the entry with a number, and `BeginsWith` whether a text begins with a line.
use Rattle.std.specs.Prelude.{◌≡◌, ℕ, ◌≤◌, Bool, true, false, List, [], ◌∷◌, ◌++◌, Option, Some, None, codes}
use Rattle.rvd_event.specs.declared.queries.Names.{Names}
use Rattle.rvd_journal.specs.declared.entries.Entry.{Entry}
use Rattle.rvd_reading.specs.Steps.{◌>>=◌, Step, behind}
use Rattle.rvd_reading.specs.Numbers.{number_of}
use Rattle.rvd_journal_text.specs.Lines.{full_line, head_line}
use Rattle.rvd_line_reading.specs.Lines.{IsInRange, bare_entry}

abbrev pub BeginsWith : List ℕ → List ℕ → Type 0
BeginsWith text front = (more : List ℕ) × (text ≡ front ++ more)

-- what is left of a text whose front is taken, where it begins with that
abbrev pub Takes : List ℕ → List ℕ → List ℕ → Bool → Type 0
Takes text front rest true = text ≡ front ++ rest
Takes text front rest false = BeginsWith text front → ⊥

-- from 1 to 16 sessions, and at most 8 workers
pub record AreNames (names : Names) : Type 0 where
  pub some : 1 ≤ names.sessions
  pub sessions : names.sessions ≤ 16
  pub workers : names.workers ≤ 8

-- what a head line may be that of, and the bytes behind the number of workers
unfoldable pub head_of : List ℕ → Step Names
head_of bytes = do
  word ← behind (codes "journal 1 ") bytes
  sessions ← number_of 16 word.1
  gap ← behind (codes " ") sessions.1
  workers ← number_of 8 gap.1
  Some (record { sessions = sessions.0; workers = workers.0 }, workers.1)

-- no head line comes first
abbrev pub HasNoHead : List ℕ → Type 0
HasNoHead text = (names : Names) → AreNames names → BeginsWith text (head_line names ++ 10 ∷ []) → ⊥

-- the head line that comes first, and what is left behind it
abbrev pub IsHead : List ℕ → List ℕ → Option Names → Type 0
IsHead text rest (Some names) = AreNames names × (text ≡ (head_line names ++ 10 ∷ []) ++ rest)
IsHead text rest None = HasNoHead text

-- the line of an entry with its number comes first; the entry is without the bytes of blocks, which its line leaves out
pub record IsNextEntry (names : Names) (number : ℕ) (text rest : List ℕ) (entry : Entry) : Type 0 where
  pub line : text ≡ full_line names (number, entry) ++ rest
  pub range : IsInRange names entry
  pub bare : bare_entry entry ≡ entry

-- no line of an entry with this number comes first
abbrev pub HasNoEntry : Names → ℕ → List ℕ → Type 0
HasNoEntry names number text = (entry : Entry) → IsInRange names entry → BeginsWith text (full_line names (number, entry)) → ⊥

-- the entry with this number whose line comes first, and what is left behind it
abbrev pub IsNext : Names → ℕ → List ℕ → List ℕ → Option Entry → Type 0
IsNext names number text rest (Some entry) = IsNextEntry names number text rest entry
IsNext names number text rest None = HasNoEntry names number text
