-- How a command ends: the exit status, which ending comes of a refusal, and which endings leave the sink as it was.
use Rattle.std.specs.Prelude.{◌≡◌, ℕ}
use Rattle.rvd_fact.specs.declared.causes.What.TheVariants.{Lines, Entries}
use Rattle.rvd_script.specs.declared.errors.ScriptError.{ScriptError}
use Rattle.rvd_script.specs.declared.errors.ScriptError.TheVariants.{TooManyLines, Bad, OutOfMemory}
use Rattle.rvd_elf.specs.declared.refusals.ElfError.{ElfError}
use Rattle.rvd_elf.specs.declared.refusals.ElfError.TheVariants as elf
use Rattle.rvd_top.specs.declared.endings.Ending.{Ending}
use Rattle.rvd_top.specs.declared.endings.Ending.TheVariants.{Done, Usage, ReadFault, NotThisKind, Damaged, BadText, WriteFault, Memory, TooLarge, Differs}
use Rattle.rvd_machine.specs.Steps.{max_entries}
use Rattle.rvd_desk.specs.declared.answers.DeskError.{DeskError}
use Rattle.rvd_desk.specs.declared.answers.DeskError.TheVariants as desk

-- the exit status
abbrev pub status_of : Ending → ℕ
status_of Done = 0
status_of Usage = 1
status_of (ReadFault word) = 2
status_of (NotThisKind refusal) = 3
status_of (Damaged refusal) = 4
status_of (BadText word line cause) = 5
status_of WriteFault = 6
status_of Memory = 7
status_of (TooLarge what count) = 8
status_of (Differs line) = 9

-- the ending for a refusal of the import: damage, a count past its limit, no memory, or else another kind of
-- file
abbrev pub ending_of : ElfError → Ending
ending_of (elf.BadEntrySize part size) = Damaged (elf.BadEntrySize part size)
ending_of (elf.Truncated part at) = Damaged (elf.Truncated part at)
ending_of (elf.BadRange segment) = Damaged (elf.BadRange segment)
ending_of (elf.Overlap first second) = Damaged (elf.Overlap first second)
ending_of (elf.BadLink link) = Damaged (elf.BadLink link)
ending_of (elf.BadName symbol) = Damaged (elf.BadName symbol)
ending_of (elf.TooMany what count) = TooLarge what count
ending_of elf.OutOfMemory = Memory
ending_of refusal = NotThisKind refusal

-- the ending for a refusal of the script or event file that a word names, by the word's place
abbrev pub script_ending : ℕ → ScriptError → Ending
script_ending word (TooManyLines count) = TooLarge Lines count
script_ending word (Bad line cause) = BadText word line cause
script_ending word OutOfMemory = Memory

-- the sink is as it was, but for these two endings
abbrev pub KeepsSink : {K : Type 0} → Ending → K → K → Type 0
KeepsSink Done old new = Unit {0}
KeepsSink WriteFault old new = Unit {0}
KeepsSink ending old new = new ≡ old

-- the endings that a command answers in place of a text: neither usage, nor a fault, nor the whole text put
abbrev pub IsAnswered : Ending → Type 0
IsAnswered Done = ⊥
IsAnswered Usage = ⊥
IsAnswered (ReadFault word) = ⊥
IsAnswered WriteFault = ⊥
IsAnswered ending = Unit {0}

-- the endings that come before a text is put: neither usage, nor a fault of writing, nor the whole text put
abbrev pub IsBeforePut : Ending → Type 0
IsBeforePut Done = ⊥
IsBeforePut Usage = ⊥
IsBeforePut WriteFault = ⊥
IsBeforePut ending = Unit {0}

-- an error of a desk that isn't stopped, and no refusal: its journal is full, or there is no memory
abbrev pub IsUnstopped : DeskError → Type 0
IsUnstopped (desk.Refused refusal) = ⊥
IsUnstopped (desk.JournalFull count) = Unit {0}
IsUnstopped (desk.Stopped halt) = ⊥
IsUnstopped desk.OutOfMemory = Unit {0}

abbrev pub desk_ending : DeskError → Ending
desk_ending (desk.JournalFull count) = TooLarge Entries max_entries
desk_ending error = Memory
