-- What stands after a whole analysis on one thread. Use `IsAnalysed` for the desk, and `AnalysisFails` where an error came before.
use Rattle.std.specs.Prelude.{◌≡◌, ℕ, ◌<◌, ◌+◌, List, [], ◌∷◌, ◌++◌, length, None, ◌⊎◌}
use Rattle.rvd_fact.specs.Program.{Program}
use Rattle.rvd_ask.specs.Unsettled.{analyzers, IsClosed}
use Rattle.rvd_event.specs.declared.events.Event.TheVariants.{Full}
use Rattle.rvd_journal.specs.declared.entries.Entry.{Entry}
use Rattle.rvd_machine.specs.State.{base}
use Rattle.rvd_machine.specs.Steps.{after, Head, IsLegal, kept_rooms, max_entries, start_of, state}
use Rattle.rvd_desk.specs.Story.{Story, state_of}
use Rattle.rvd_desk.specs.declared.answers.DeskError.{DeskError}
use Rattle.rvd_desk.specs.declared.answers.DeskError.TheVariants.{Refused, JournalFull, Stopped, OutOfMemory}
use Rattle.rvd_settle.specs.Settling.{ArePairs, IsTake}

-- one session and one worker over a program
abbrev pub head_of_one : Program → Head
head_of_one P = record { program = P; sessions = 1; workers = 1 }

-- session 1 asks for a whole analysis, and the worker takes jobs of at most 64 items and offers them
pub record IsRun (P : Program) (journal : List Entry) : Type 0 where
  pub first : Entry
  pub asks : (first.actor ≡ 1) × (first.event ≡ Full)
  pub pairs : List Entry
  pub are_pairs : ArePairs (after (start_of (head_of_one P)) first) 2 64 pairs
  pub entries : journal ≡ first ∷ pairs

-- so it is, and no analyzer would change the committed program
pub record IsAnalysed (P : Program) (d : Story) : Type 0 where
  pub head : d.head ≡ head_of_one P
  pub running : d.halt ≡ None
  pub legal : IsLegal (head_of_one P) d.journal
  pub run : IsRun P d.journal
  pub closed : IsClosed (base (state_of d)) analyzers

-- such a journal, perhaps with one more take at its end, has no room for a begin
pub record FillsAnalysis (P : Program) (count : ℕ) : Type 0 where
  pub journal : List Entry
  pub legal : IsLegal (head_of_one P) journal
  pub run : IsRun P journal ⊎ ((before : List Entry) × (last : Entry) × IsRun P before × IsTake 2 64 last × (journal ≡ before ++ last ∷ []))
  pub counted : count ≡ length journal
  pub full : max_entries < length journal + kept_rooms (state (head_of_one P) journal) + 2

abbrev pub AnalysisFails : Program → DeskError → Type 0
AnalysisFails P (Refused refusal) = ⊥
AnalysisFails P (JournalFull count) = FillsAnalysis P count
AnalysisFails P (Stopped halt) = ⊥
AnalysisFails P OutOfMemory = Unit {0}
