-- Which endings come of accepted files in place of a text (`accepted`): want of memory, or too many entries of a journal that the
-- command makes.
use Rattle.std.proofs.Common.{◌≡◌, ℕ, List, [], Result, Ok, Err, subst}
use Rattle.rvd_fact.specs.declared.cells.Change.{Change}
use Rattle.rvd_fact.specs.declared.causes.What.TheVariants.{FileBytes, Lines, Blocks, LoadedBytes, Symbols, Entries}
use Rattle.rvd_fact.specs.Program.{Program, applied_all}
use Rattle.rvd_elf.specs.declared.refusals.ElfError.{ElfError}
use Rattle.rvd_elf.specs.Import.{import_of}
use Rattle.rvd_script.specs.declared.errors.ScriptError.{ScriptError}
use Rattle.rvd_script.specs.Legal.{Events}
use Rattle.rvd_script.specs.Files.{events_of}
use Rattle.rvd_script.specs.Parts.{number_of}
use Rattle.rvd_fact.specs.declared.causes.TextCause.{TextCause}
use Rattle.rvd_gen.specs.Layout.{max_functions}
use Rattle.rvd_gen.specs.Image.{image}
use Rattle.rvd_gen.proofs.Sizes.{length-image}
use Rattle.rvd_top.proofs.ImageImport.{image_imported}
use Rattle.rvd_top.proofs.Numbers.{number_of-within}
use Rattle.rvd_event.specs.declared.queries.Names.{Names}
use Rattle.rvd_journal.specs.declared.entries.Entry.{Entry}
use Rattle.rvd_journal_text.specs.Lines.{journal_text}
use Rattle.rvd_line_reading.specs.Front.{BeginsWith}
use Rattle.rvd_replay.specs.Replayed.{IsJournalOf}
use Rattle.rvd_top.specs.declared.endings.Ending.{Ending}
use Rattle.rvd_top.specs.declared.endings.Ending.TheVariants.{Done, Usage, ReadFault, NotThisKind, Damaged, BadText, WriteFault, Memory, TooLarge, Differs}
use Rattle.rvd_top.specs.declared.words.Command.{Command}
use Rattle.rvd_top.specs.declared.words.Command.TheVariants as command
use Rattle.rvd_top.specs.Answers.{Accepts, Answer, Answers, HasJournal, IsImported, IsWithoutFault, Lists, OnFacts, Generates, PlaysEvents, PlaysFile, ReplaysText, Shows, Sums, nth}

-- what is answered to facts is by them
on_facts : (answers : List Change → Answer → Type 0) (facts : Result (List Change) ElfError) (changes : List Change) (answer : Answer) → facts ≡ Ok changes
    → OnFacts answers facts answer → answers changes answer
on_facts answers facts changes answer is h = subst (λ (r : Result (List Change) ElfError). OnFacts answers r answer) is h

on_events : (P : Program) (events : Result Events ScriptError) (file : Events) (answer : Answer) → events ≡ Ok file → PlaysEvents P events answer → PlaysFile P file answer
on_events P events file answer is h = subst (λ (r : Result Events ScriptError). PlaysEvents P r answer) is h

shows : (changes : List Change) (e : Ending) → Shows changes (Err e) → IsWithoutFault command.Show e
shows changes Done h = tt
shows changes Usage h = h
shows changes (ReadFault word) h = h
shows changes (NotThisKind refusal) h = h
shows changes (Damaged refusal) h = h
shows changes (BadText word line cause) h = h
shows changes WriteFault h = h
shows changes Memory h = tt
shows changes (TooLarge what count) h = absurd h
shows changes (Differs line) h = h

lists : (P : Program) (e : Ending) → Lists P (Err e) → IsWithoutFault command.List e
lists P Done h = tt
lists P Usage h = h
lists P (ReadFault word) h = h
lists P (NotThisKind refusal) h = h
lists P (Damaged refusal) h = h
lists P (BadText word line cause) h = h
lists P WriteFault h = h
lists P Memory h = tt
lists P (TooLarge FileBytes count) h = h
lists P (TooLarge Lines count) h = h
lists P (TooLarge Blocks count) h = h
lists P (TooLarge LoadedBytes count) h = h
lists P (TooLarge Symbols count) h = h
lists P (TooLarge Entries count) h = tt
lists P (Differs line) h = h

plays : (P : Program) (file : Events) (e : Ending) → PlaysFile P file (Err e) → IsWithoutFault command.Play e
plays P file Done h = tt
plays P file Usage h = h
plays P file (ReadFault word) h = h
plays P file (NotThisKind refusal) h = h
plays P file (Damaged refusal) h = h
plays P file (BadText word line cause) h = h
plays P file WriteFault h = h
plays P file Memory h = tt
plays P file (TooLarge FileBytes count) h = h
plays P file (TooLarge Lines count) h = h
plays P file (TooLarge Blocks count) h = h
plays P file (TooLarge LoadedBytes count) h = h
plays P file (TooLarge Symbols count) h = h
plays P file (TooLarge Entries count) h = tt
plays P file (Differs line) h = h

-- a text that begins with that of a journal differs nowhere
replays : (P : Program) (text : List ℕ) (names : Names) (entries : List Entry) → IsJournalOf P names entries → BeginsWith text (journal_text names entries)
    → (e : Ending) → ReplaysText P text (Err e) → IsWithoutFault command.Replay e
replays P text names entries is begins Done h = tt
replays P text names entries is begins Usage h = h
replays P text names entries is begins (ReadFault word) h = h
replays P text names entries is begins (NotThisKind refusal) h = h
replays P text names entries is begins (Damaged refusal) h = h
replays P text names entries is begins (BadText word line cause) h = h
replays P text names entries is begins WriteFault h = h
replays P text names entries is begins Memory h = tt
replays P text names entries is begins (TooLarge what count) h = absurd h
replays P text names entries is begins (Differs line) h = h.1 names entries is begins

sums : (P : Program) (e : Ending) → Sums P (Err e) → IsWithoutFault command.Gen e
sums P Done h = tt
sums P Usage h = h
sums P (ReadFault word) h = h
sums P (NotThisKind refusal) h = h
sums P (Damaged refusal) h = h
sums P (BadText word line cause) h = h
sums P WriteFault h = h
sums P Memory h = tt
sums P (TooLarge FileBytes count) h = h
sums P (TooLarge Lines count) h = h
sums P (TooLarge Blocks count) h = h
sums P (TooLarge LoadedBytes count) h = h
sums P (TooLarge Symbols count) h = h
sums P (TooLarge Entries count) h = tt
sums P (Differs line) h = h

-- an image is imported, so that its number decides
generates : (word : List ℕ) (n : ℕ) → number_of 1 max_functions word ≡ Ok n → (e : Ending) → Generates (number_of 1 max_functions word) (Err e) → IsWithoutFault command.Gen e
generates word n is e h =
    let range = number_of-within 1 max_functions word n is in
    let imported = image_imported n range.0 range.1 (length-image n) in
    sums (applied_all [] imported.0) e (on_facts (λ changes. Sums (applied_all [] changes)) (import_of (image n)) imported.0 (Err e) imported.1
    (subst (λ (r : Result ℕ TextCause). Generates r (Err e)) is h))

pub accepted : (command : Command) (words files : List (List ℕ)) (e : Ending) → Accepts command words files → Answers command words files (Err e) → IsWithoutFault command e
accepted command.Show words files e a h = shows a.0 e (on_facts Shows (import_of (nth 0 files)) a.0 (Err e) a.1 h)
accepted command.List words files e a h = lists (applied_all [] a.0) e (on_facts (λ changes. Lists (applied_all [] changes)) (import_of (nth 0 files)) a.0 (Err e) a.1 h)
accepted command.Play words files e a h =
    plays (applied_all [] a.0.0) a.1.0 e (on_events (applied_all [] a.0.0) (events_of (nth 1 files)) a.1.0 (Err e) a.1.1
    (on_facts (λ changes. PlaysEvents (applied_all [] changes) (events_of (nth 1 files))) (import_of (nth 0 files)) a.0.0 (Err e) a.0.1 h))
accepted command.Replay words files e a h =
    replays (applied_all [] a.changes) (nth 1 files) a.names a.entries a.is_journal a.begins e
    (on_facts (λ changes. ReplaysText (applied_all [] changes) (nth 1 files)) (import_of (nth 0 files)) a.changes (Err e) a.imported h)
accepted command.Gen words files e a h = generates (nth 1 words) a.0 a.1 e h
