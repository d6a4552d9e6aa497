-- What a run of a command promises, as one record that each call cites. A cabinet holds files, counts its faults and has fetches, and
-- a sink has contents and counts its faults; the run took the cabinet from files to files', the sink from out to out', and ended so.
use Rattle.std.specs.Prelude.{◌≡◌, ◌↔◌, ◌⊎◌, ℕ, List, take, IfErr, Option, None, Some, Result, Ok, Err, Vec}
use Rattle.std.specs.Result.{IsErrAnd}
use Rattle.std.specs.declared.alloc.Global.{Global}
use Rattle.std.specs.Io.KnownBytes.{Appends}
use Rattle.rvd_io.specs.Causes.{Rose}
use Rattle.rvd_io.specs.declared.cabinets.FetchError.{FetchError}
use Rattle.rvd_top.specs.declared.endings.Ending.{Ending}
use Rattle.rvd_top.specs.declared.endings.Ending.TheVariants.{Done, Usage, ReadFault, WriteFault, Memory}
use Rattle.rvd_top.specs.declared.words.Command.{Command}
use Rattle.rvd_top.specs.Words.{command_of, files_of}
use Rattle.rvd_top.specs.Answers.{Accepts, Answer, Answers, IsWithoutFault}
use Rattle.rvd_top.specs.Endings.{IsBeforePut, KeepsSink}
use Rattle.rvd_top.specs.Fetching.{AreHeld, AreWithin, EndsAbove, EndsEarly, FailsAt, PassesLimit}

-- How a command ends that answers so, and what the sink then holds: the whole text, or a front of it after a fault of writing; else the
-- ending in its place. Memory may always run out, and whether a fault of reading comes isn't told by the files' bytes.
abbrev pub EndsBy : (Answer → Type 0) → Option (List ℕ) → Option (List ℕ) → Ending → Type 0
EndsBy answers old new Memory = Unit {0}
EndsBy answers old new (ReadFault word) = Unit {0}
EndsBy answers old new Done = (text : List ℕ) × answers (Ok text) × Appends old new text
EndsBy answers old new WriteFault = (text : List ℕ) × answers (Ok text) × ((n : ℕ) × Appends old new (take n text))
EndsBy answers old new ending = answers (Err ending)

-- What a command of these words answers, where its files are fetched, or how it ends before; this took the cabinet from s to s'.
pub record AnswersFrom {C : Type 0} (held : C → List ℕ → Option (List ℕ)) (faults : C → ℕ) (fetched : C → List ℕ → ℕ → Result (Vec ℕ Global) FetchError → C → Type 0)
    (command : Command) (words : List (List ℕ)) (s s' : C) (answer : Answer) : Type 0 where
  pub text : (t : List ℕ) → answer ≡ Ok t → (bytes : List (List ℕ)) → AreHeld (held s) (files_of command words) bytes → Answers command words bytes (Ok t)
  pub within : (bytes : List (List ℕ)) → AreHeld (held s) (files_of command words) bytes → AreWithin (files_of command words) bytes
      → Answers command words bytes answer ⊎ IfErr answer EndsEarly
  pub above : (limit : ℕ) → PassesLimit (held s) (files_of command words) limit → IsErrAnd answer (EndsAbove limit)
  pub read : (word : ℕ) → answer ≡ Err (ReadFault word) → FailsAt held faults fetched (files_of command words) word s s'
  pub before_put : IfErr answer IsBeforePut

-- How a command ends that puts its answer: by the answer's ending, or with its text put, whole or a front of it.
abbrev pub EndsWith : Option (List ℕ) → Option (List ℕ) → Answer → Ending → Type 0
EndsWith old new (Err before) ending = ending ≡ before
EndsWith old new (Ok text) Done = Appends old new text
EndsWith old new (Ok text) WriteFault = (n : ℕ) × Appends old new (take n text)
EndsWith old new (Ok text) ending = ⊥

-- what a command of these words promises
pub record CommandRuns {C K : Type 0} (held : C → List ℕ → Option (List ℕ)) (read_faults : C → ℕ)
    (fetched : C → List ℕ → ℕ → Result (Vec ℕ Global) FetchError → C → Type 0) (contents : K → Option (List ℕ)) (write_faults : K → ℕ)
    (command : Command) (words : List (List ℕ)) (files files' : C) (out out' : K) (ending : Ending) : Type 0 where
  -- On Done the sink gains the text that the command answers to the bytes of its files.
  pub done : ending ≡ Done → (bytes : List (List ℕ)) → AreHeld (held files) (files_of command words) bytes
      → (text : List ℕ) × Answers command words bytes (Ok text) × Appends (contents out) (contents out') text
  -- Where the command accepts its files and no count of faults rose, it ends with Done or Memory, or with too many entries where
  -- it makes a journal.
  pub complete : (bytes : List (List ℕ)) → AreHeld (held files) (files_of command words) bytes → AreWithin (files_of command words) bytes
      → Accepts command words bytes → (Rose (read_faults files) (read_faults files') → ⊥) → (Rose (write_faults out) (write_faults out') → ⊥)
      → IsWithoutFault command ending
  -- Which ending comes of files whose bytes the cabinet tells, none of which has too many.
  pub within : (bytes : List (List ℕ)) → AreHeld (held files) (files_of command words) bytes → AreWithin (files_of command words) bytes
      → EndsBy (Answers command words bytes) (contents out) (contents out') ending
  -- Which ending comes of the first file that has too many.
  pub above : (limit : ℕ) → PassesLimit (held files) (files_of command words) limit → EndsAbove limit ending
  -- A fault of reading names the word whose own fetch raised the cabinet's count.
  pub read : (word : ℕ) → ending ≡ ReadFault word → FailsAt held read_faults fetched (files_of command words) word files files'

pub record Runs {C K : Type 0} (held : C → List ℕ → Option (List ℕ)) (read_faults : C → ℕ)
    (fetched : C → List ℕ → ℕ → Result (Vec ℕ Global) FetchError → C → Type 0) (contents : K → Option (List ℕ)) (write_faults : K → ℕ)
    (words : List (List ℕ)) (files files' : C) (out out' : K) (ending : Ending) : Type 0 where
  -- Usage comes exactly where the words are no command.
  pub usage : (ending ≡ Usage) ↔ (command_of words ≡ None)
  -- What any command promises.
  pub runs : (command : Command) → command_of words ≡ Some command
      → CommandRuns held read_faults fetched contents write_faults command words files files' out out' ending
  -- The sink is as it was on each ending but Done and WriteFault.
  pub sink : KeepsSink ending out out'
  -- A fault of writing comes only where the sink's count rose.
  pub write : ending ≡ WriteFault → Rose (write_faults out) (write_faults out')
