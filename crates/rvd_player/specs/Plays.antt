-- What is played of an event file over a program. Use `Plays` for a desk that has played all its lines, and `PlayFails` where
-- an error came before.
use Rattle.std.specs.Prelude.{◌≡◌, ℕ, List, flat_map, length, replicate, take, slice_get, Some, None}
use Rattle.rvd_fact.specs.Program.{Program}
use Rattle.rvd_script.specs.declared.script_lines.EventLine.{EventLine}
use Rattle.rvd_script.specs.Legal.{Events}
use Rattle.rvd_machine.specs.Steps.{Head, IsLegal, start_of}
use Rattle.rvd_desk.specs.Story.{Story}
use Rattle.rvd_desk.specs.declared.answers.DeskError.{DeskError}
use Rattle.rvd_desk.specs.declared.answers.DeskError.TheVariants.{Refused, JournalFull, Stopped, OutOfMemory}
use Rattle.rvd_machine.specs.Proper.{AreProper}
use Rattle.rvd_journal.specs.declared.entries.Entry.{Entry}
use Rattle.rvd_report.specs.declared.answer_lines.Answered.{Answered}
use Rattle.rvd_player.specs.Lines.{AreOf, IsFullAt}
use Rattle.rvd_player.specs.Seen.{Seen, answers_of}

-- the head of a run over a program with the actors of an event file
abbrev pub head_of : Program → Events → Head
head_of P file = record { program = P; sessions = file.sessions; workers = file.workers }

-- no session has read
abbrev pub none_seen : Head → Seen
none_seen h = replicate h.sessions None

-- a desk has played lines: its journal is legal, its entries are theirs in order, and these are the answers to the queries
-- among them
pub record Plays (h : Head) (lines : List EventLine) (d : Story) (answers : List Answered) : Type 0 where
  pub head : d.head ≡ h
  pub running : d.halt ≡ None
  pub legal : IsLegal h d.journal
  pub parts : List (List Entry)
  pub entries : AreOf (start_of h) lines parts
  pub in_order : d.journal ≡ flat_map (λ (part : List Entry). part) parts
  pub proper : AreProper (start_of h) d.journal
  pub answered : answers ≡ answers_of h.program (start_of h) (none_seen h) lines parts

-- the journal of a part of the lines has no room for a begin: some lines are played whole, and the next one as far as there
-- was room
pub record FillsJournal (h : Head) (lines : List EventLine) (count : ℕ) : Type 0 where
  pub number : ℕ
  pub played : Story
  pub answers : List Answered
  pub plays : Plays h (take number lines) played answers
  pub next : EventLine
  pub is_next : slice_get lines number ≡ Some next
  pub last : Story
  pub full : IsFullAt played next.actor next.what last
  pub legal : IsLegal h last.journal
  pub counted : count ≡ length last.journal

abbrev pub PlayFails : Head → List EventLine → DeskError → Type 0
PlayFails h lines (Refused refusal) = ⊥
PlayFails h lines (JournalFull count) = FillsJournal h lines count
PlayFails h lines (Stopped halt) = ⊥
PlayFails h lines OutOfMemory = Unit {0}
