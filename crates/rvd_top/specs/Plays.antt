-- What is printed of an event file that is played. Use `IsPlayed` for the text.
use Rattle.std.specs.Prelude.{◌≡◌, ℕ, List, ◌++◌}
use Rattle.rvd_fact.specs.Program.{Program}
use Rattle.rvd_event.specs.declared.queries.Names.{Names}
use Rattle.rvd_script.specs.Legal.{Events}
use Rattle.rvd_machine.specs.State.{base}
use Rattle.rvd_desk.specs.Story.{Story, state_of}
use Rattle.rvd_player.specs.Plays.{head_of, Plays}
use Rattle.rvd_journal_text.specs.Lines.{journal_text}
use Rattle.rvd_report.specs.declared.answer_lines.Answered.{Answered}
use Rattle.rvd_report.specs.Answers.{answers_text}
use Rattle.rvd_report.specs.Listing.{listing}
use Rattle.rvd_report.specs.History.{history}

abbrev pub names_of : Events → Names
names_of file = record { sessions = file.sessions; workers = file.workers }

-- what is printed of the state of a desk: its history, and the listing of its committed program
abbrev pub outcome_text : Names → Story → List ℕ
outcome_text names d = history (state_of d).steps names ++ listing (base (state_of d))

-- what is printed of a desk: its journal, the answers to queries, and its state
abbrev pub desk_text : Names → Story → List Answered → List ℕ
desk_text names d answers = journal_text names d.journal ++ (answers_text answers ++ outcome_text names d)

-- a text is that of a desk that has played an event file over a program
pub record IsPlayed (P : Program) (file : Events) (text : List ℕ) : Type 0 where
  pub reached : Story
  pub answers : List Answered
  pub plays : Plays (head_of P file) file.lines reached answers
  pub is_text : text ≡ desk_text (names_of file) reached answers
