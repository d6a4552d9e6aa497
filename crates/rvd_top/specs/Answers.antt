-- What a command answers to the bytes of its files: a text, or the ending that comes in its place. Want of memory may always come.
-- Use `Answers` for any command; the others are its parts.
use Rattle.std.specs.Prelude.{◌≡◌, ℕ, List, [], slice_index_or, Result, Ok, Err, Vec}
use Rattle.std.specs.declared.alloc.Global.{Global}
use Rattle.rvd_fact.specs.declared.cells.Change.{Change}
use Rattle.rvd_fact.specs.declared.causes.TextCause.{TextCause}
use Rattle.rvd_fact.specs.declared.causes.What.TheVariants.{Entries}
use Rattle.rvd_fact.specs.Program.{Program, applied_all}
use Rattle.rvd_script.specs.declared.errors.ScriptError.{ScriptError}
use Rattle.rvd_script.specs.Legal.{Events}
use Rattle.rvd_script.specs.Files.{events_of}
use Rattle.rvd_script.specs.Parts.{number_of}
use Rattle.rvd_gen.specs.Layout.{max_functions}
use Rattle.rvd_gen.specs.Image.{image}
use Rattle.rvd_elf.specs.declared.refusals.ElfError.{ElfError}
use Rattle.rvd_elf.specs.Import.{import_of}
use Rattle.rvd_machine.specs.Steps.{max_entries}
use Rattle.rvd_player.specs.Plays.{FillsJournal, head_of}
use Rattle.rvd_player.specs.Analysed.{FillsAnalysis}
use Rattle.rvd_event.specs.declared.queries.Names.{Names}
use Rattle.rvd_journal.specs.declared.entries.Entry.{Entry}
use Rattle.rvd_journal_text.specs.Lines.{journal_text}
use Rattle.rvd_line_reading.specs.Front.{BeginsWith}
use Rattle.rvd_replay.specs.Replayed.{DiffersAt, HasNoJournal, IsJournalOf}
use Rattle.rvd_top.specs.declared.endings.Ending.{Ending}
use Rattle.rvd_top.specs.declared.endings.Ending.TheVariants.{Done, BadText, Memory, TooLarge, Differs}
use Rattle.rvd_top.specs.declared.words.Command.{Command}
use Rattle.rvd_top.specs.declared.words.Command.TheVariants as command
use Rattle.rvd_top.specs.Texts.{block_lines, IsListed}
use Rattle.rvd_top.specs.Plays.{IsPlayed}
use Rattle.rvd_top.specs.Replays.{IsReplayOf}
use Rattle.rvd_top.specs.Summary.{IsSummed}
use Rattle.rvd_top.specs.Endings.{ending_of, script_ending}

-- a text, or the ending in its place
abbrev pub Answer : Type 0
Answer = Result (List ℕ) Ending

-- A refusal comes in place of a text: its ending, or want of memory.
abbrev pub Refuses : Ending → Answer → Type 0
Refuses refusal (Ok text) = ⊥
Refuses refusal (Err Memory) = Unit {0}
Refuses refusal (Err ending) = ending ≡ refusal

-- On a file that is imported the answer is by its facts, and a refusal of the import comes before all else.
abbrev pub OnFacts : (List Change → Answer → Type 0) → Result (List Change) ElfError → Answer → Type 0
OnFacts answers (Ok changes) answer = answers changes answer
OnFacts answers (Err refusal) answer = Refuses (ending_of refusal) answer

-- `show`: the lines of the blocks
abbrev pub Shows : List Change → Answer → Type 0
Shows changes (Ok text) = text ≡ block_lines changes
Shows changes (Err Memory) = Unit {0}
Shows changes (Err ending) = ⊥

-- `list`: the listing after a whole analysis, unless its journal is full
abbrev pub Lists : Program → Answer → Type 0
Lists P (Ok text) = IsListed P text
Lists P (Err Memory) = Unit {0}
Lists P (Err (TooLarge Entries count)) = (count ≡ max_entries) × ((length : ℕ) × FillsAnalysis P length)
Lists P (Err ending) = ⊥

-- `play` of an event file: what its lines lead to, unless the journal is full
abbrev pub PlaysFile : Program → Events → Answer → Type 0
PlaysFile P file (Ok text) = IsPlayed P file text
PlaysFile P file (Err Memory) = Unit {0}
PlaysFile P file (Err (TooLarge Entries count)) = (count ≡ max_entries) × ((length : ℕ) × FillsJournal (head_of P file) file.lines length)
PlaysFile P file (Err ending) = ⊥

-- `play`, where the file is imported: a refusal of the event file, which is the third word, comes before its lines are played
abbrev pub PlaysEvents : Program → Result Events ScriptError → Answer → Type 0
PlaysEvents P (Ok file) answer = PlaysFile P file answer
PlaysEvents P (Err refusal) answer = Refuses (script_ending 2 refusal) answer

-- `replay` of a journal's text: what it leads to, or else the first line that differs from all journals of the program
abbrev pub ReplaysText : Program → List ℕ → Answer → Type 0
ReplaysText P journal (Ok text) = IsReplayOf P journal text
ReplaysText P journal (Err Memory) = Unit {0}
ReplaysText P journal (Err (Differs line)) = DiffersAt P journal line × HasNoJournal P journal
ReplaysText P journal (Err ending) = ⊥

-- `gen` of a program: the summary after a whole analysis, unless its journal is full
abbrev pub Sums : Program → Answer → Type 0
Sums P (Ok text) = IsSummed P text
Sums P (Err Memory) = Unit {0}
Sums P (Err (TooLarge Entries count)) = (count ≡ max_entries) × ((length : ℕ) × FillsAnalysis P length)
Sums P (Err ending) = ⊥

-- `gen` of what its second word writes: the image of that number of functions is imported; what is no such number is refused as a line
-- of a file would be
abbrev pub Generates : Result ℕ TextCause → Answer → Type 0
Generates (Ok n) answer = OnFacts (λ changes. Sums (applied_all [] changes)) (import_of (image n)) answer
Generates (Err cause) answer = Refuses (BadText 1 1 cause) answer

-- the bytes of a command's files, by their order
abbrev pub nth : ℕ → List (List ℕ) → List ℕ
nth k files = slice_index_or files k []

-- what a command of these words answers to the bytes of its files
abbrev pub Answers : Command → List (List ℕ) → List (List ℕ) → Answer → Type 0
Answers command.Show words files answer = OnFacts Shows (import_of (nth 0 files)) answer
Answers command.List words files answer = OnFacts (λ changes. Lists (applied_all [] changes)) (import_of (nth 0 files)) answer
Answers command.Play words files answer = OnFacts (λ changes. PlaysEvents (applied_all [] changes) (events_of (nth 1 files))) (import_of (nth 0 files)) answer
Answers command.Replay words files answer = OnFacts (λ changes. ReplaysText (applied_all [] changes) (nth 1 files)) (import_of (nth 0 files)) answer
Answers command.Gen words files answer = Generates (number_of 1 max_functions (nth 1 words)) answer

-- the answer that a call gives
abbrev pub answer_of : Result (Vec ℕ Global) Ending → Answer
answer_of (Ok text) = Ok text.items
answer_of (Err ending) = Err ending

-- what a command accepts: a file that is imported; besides, of `play` an event file in its grammar, and of `replay` a text that begins
-- with that of a legal journal of the imported program; and of `gen` a number in its range
abbrev pub IsImported : List ℕ → Type 0
IsImported bytes = (changes : List Change) × (import_of bytes ≡ Ok changes)

pub record HasJournal (bytes journal : List ℕ) : Type 0 where
  pub changes : List Change
  pub imported : import_of bytes ≡ Ok changes
  pub names : Names
  pub entries : List Entry
  pub is_journal : IsJournalOf (applied_all [] changes) names entries
  pub begins : BeginsWith journal (journal_text names entries)

abbrev pub Accepts : Command → List (List ℕ) → List (List ℕ) → Type 0
Accepts command.Show words files = IsImported (nth 0 files)
Accepts command.List words files = IsImported (nth 0 files)
Accepts command.Play words files = IsImported (nth 0 files) × ((script : Events) × (events_of (nth 1 files) ≡ Ok script))
Accepts command.Replay words files = HasJournal (nth 0 files) (nth 1 files)
Accepts command.Gen words files = (n : ℕ) × (number_of 1 max_functions (nth 1 words) ≡ Ok n)

-- the commands that make a journal, which may be full
abbrev pub MakesJournal : Command → Type 0
MakesJournal command.Show = ⊥
MakesJournal command.List = Unit {0}
MakesJournal command.Play = Unit {0}
MakesJournal command.Replay = ⊥
MakesJournal command.Gen = Unit {0}

-- the endings of a command over accepted files: done, no memory, or too many entries of the journal that it makes
abbrev pub IsWithoutFault : Command → Ending → Type 0
IsWithoutFault command Done = Unit {0}
IsWithoutFault command Memory = Unit {0}
IsWithoutFault command (TooLarge Entries count) = MakesJournal command
IsWithoutFault command ending = ⊥
