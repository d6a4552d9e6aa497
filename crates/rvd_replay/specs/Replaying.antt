-- How replaying goes on from one line to the next. Use `GoesOn` for one entry, and `Replays` for the lines so far.
use Rattle.std.specs.Prelude.{◌≡◌, ℕ, ◌+◌, Bool, true, false, List, [], ◌∷◌, ◌++◌, length, None}
use Rattle.std.specs.List.{enumerate_from}
use Rattle.rvd_fact.specs.Program.{Program}
use Rattle.rvd_event.specs.declared.queries.Names.{Names}
use Rattle.rvd_journal.specs.declared.entries.Entry.{Entry}
use Rattle.rvd_journal_text.specs.Lines.{entry_lines, full_line, head_line}
use Rattle.rvd_line_reading.specs.Front.{BeginsWith}
use Rattle.rvd_line_reading.specs.Lines.{IsInRange}
use Rattle.rvd_machine.specs.Steps.{IsStep}
use Rattle.rvd_desk.specs.Story.{Story, state_of}
use Rattle.rvd_replay.specs.declared.replaying.Replayed.{Replayed}
use Rattle.rvd_replay.specs.Replayed.{IsJournalOf, IsOutcome, head_for}

-- the line of an entry that is a step came next, and the desk has it
pub record TakesLine (names : Names) (old new : Story) (text rest : List ℕ) : Type 0 where
  pub entry : Entry
  pub range : IsInRange names entry
  pub line : text ≡ full_line names (length old.journal + 1, entry) ++ rest
  pub step : IsStep (state_of old) entry
  pub grown : new ≡ record old { journal = old.journal ++ entry ∷ [] }

-- no such line comes next, and the desk is as it was
pub record FindsNone (names : Names) (old new : Story) (text : List ℕ) : Type 0 where
  pub same : new ≡ old
  pub no_step : (e : Entry) → IsInRange names e → IsStep (state_of old) e → BeginsWith text (full_line names (length old.journal + 1, e)) → ⊥

abbrev pub GoesOn : Bool → Names → Story → Story → List ℕ → List ℕ → Type 0
GoesOn true names old new text rest = TakesLine names old new text rest
GoesOn false names old new text rest = FindsNone names old new text

-- a desk has replayed the lines behind a head line up to what is left of them
pub record Replays (P : Program) (names : Names) (lines : List ℕ) (d : Story) (rest : List ℕ) : Type 0 where
  pub head : d.head ≡ head_for P names
  pub running : d.halt ≡ None
  pub journal : IsJournalOf P names d.journal
  pub read : lines ≡ entry_lines names (enumerate_from 1 d.journal) ++ rest

-- the outcome of a text with this head line, where these lines stand behind it
abbrev pub IsOutcomeBehind : Program → Names → List ℕ → Replayed → Type 0
IsOutcomeBehind P names lines replayed = (text : List ℕ) → text ≡ head_line names ++ 10 ∷ [] ++ lines → IsOutcome P text replayed
