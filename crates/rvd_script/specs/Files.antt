-- Scripts and event files. Use `script_of` and `events_of` for what a file's bytes say, or why they are refused: too many
-- lines, or the first line from the top that isn't in the grammar, with its number and the cause.
use Rattle.std.specs.Prelude.{◌≡◌, ℕ, ◌+◌, nat_le, ◌==◌, List, [], ◌∷◌, ◌++◌, length, Result, Ok, Err, if◌then◌else◌, codes}
use Rattle.rvd_fact.specs.declared.causes.TextCause.{TextCause}
use Rattle.rvd_fact.specs.declared.causes.TextCause.TheVariants.{UnknownWord, MissingPart}
use Rattle.rvd_event.specs.declared.queries.Names.{Names}
use Rattle.rvd_script.specs.declared.errors.ScriptError.{ScriptError}
use Rattle.rvd_script.specs.declared.errors.ScriptError.TheVariants.{TooManyLines, Bad, OutOfMemory}
use Rattle.rvd_script.specs.declared.script_lines.What1.{What1}
use Rattle.rvd_script.specs.declared.script_lines.ScriptLine.{ScriptLine}
use Rattle.rvd_script.specs.declared.script_lines.EventLine.{EventLine}
use Rattle.rvd_script.specs.declared.actor_lines.Actor.{Actor}
use Rattle.rvd_script.specs.declared.actor_lines.Actor.TheVariants.{Session, Worker}
use Rattle.rvd_script.specs.declared.reading.Head.{Head}
use Rattle.rvd_script.specs.Lines.{lines_of}
use Rattle.rvd_script.specs.Words.{is_skipped, words_of}
use Rattle.rvd_script.specs.Steps.{◌>>=◌, finished, part}
use Rattle.rvd_script.specs.Parts.{fixed, number_of}
use Rattle.rvd_script.specs.EventLines.{closing_line, session_line, worker_line}
use Rattle.rvd_script.specs.Legal.{Events}

-- what a line is read as, or its number with the cause
abbrev pub at_line : {A : Type 0} → ℕ → Result A TextCause → Result A ScriptError
at_line n (Ok x) = Ok x
at_line n (Err cause) = Err (Bad n cause)

-- what lines say, behind what those before them say
abbrev pub behind : {A : Type 0} → List A → Result (List A) ScriptError → Result (List A) ScriptError
behind before later = later >>= (λ xs. Ok (before ++ xs))

-- what lines say, in their order, where the number of the first is n
abbrev pub in_order : {A : Type 0} → (ℕ → List ℕ → Result (List A) ScriptError) → ℕ → List (List ℕ) → Result (List A) ScriptError
in_order read n [] = Ok []
in_order read n (l ∷ ls) = read n l >>= (λ here. behind here (in_order read (n + 1) ls))

-- at most 100,000 lines
abbrev pub limited : {A : Type 0} → List (List ℕ) → Result A ScriptError → Result A ScriptError
limited lines r = if nat_le (length lines) 100000 then r else Err (TooManyLines (length lines))

-- a line of a script, by its number: nothing where it is skipped
abbrev pub script_line : ℕ → List ℕ → Result (List ScriptLine) ScriptError
script_line n l =
    if is_skipped l then Ok []
    else at_line n (session_line (words_of l)) >>= (λ what. Ok (record { line = n; what = what } ∷ []))

-- the lines of a script
unfoldable pub script_of : List ℕ → Result (List ScriptLine) ScriptError
script_of bytes = limited (lines_of bytes) (in_order script_line 1 (lines_of bytes))

-- the head line of an event file: events S W
abbrev pub head_words : List (List ℕ × Unit {0})
head_words = (codes "events", tt) ∷ []

unfoldable pub head_of : List (List ℕ) → Result Names TextCause
head_of words = do
  first ← part (fixed head_words) words
  sessions ← part (number_of 1 16) first.1
  workers ← part (number_of 0 8) sessions.1
  finished (record { sessions = sessions.0; workers = workers.0 }) workers.1

-- an actor's number; what is none, or out of range, is UnknownWord
abbrev pub index_of : Result ℕ TextCause → Result ℕ TextCause
index_of (Ok n) = Ok n
index_of (Err cause) = Err UnknownWord

-- the actor of a word: s or w, and a number from 1 on
abbrev pub actor_of : Names → List ℕ → Result Actor TextCause
actor_of names [] = Err UnknownWord
actor_of names (c ∷ digits) =
    if c == 115 then index_of (number_of 1 names.sessions digits) >>= (λ n. Ok (Session n))
    else (if c == 119 then index_of (number_of 1 names.workers digits) >>= (λ n. Ok (Worker n))
    else Err UnknownWord)

-- what an actor's line asks for, from the word behind the actor on
abbrev pub actor_line : Actor → List (List ℕ) → Result What1 TextCause
actor_line (Session k) words = closing_line words
actor_line (Worker k) words = worker_line words

-- the actors are numbered through: sessions first, then workers
abbrev pub actor_number : Names → Actor → ℕ
actor_number names (Session k) = k
actor_number names (Worker k) = names.sessions + k

-- a line with its actor's number
unfoldable pub event_of : Names → ℕ → List (List ℕ) → Result EventLine TextCause
event_of names n words = do
  actor ← part (actor_of names) words
  what ← actor_line actor.0 actor.1
  Ok (record { line = n; actor = actor_number names actor.0; what = what })

-- a line of an event file behind the head line, by its number: nothing where it is skipped
abbrev pub event_line : Names → ℕ → List ℕ → Result (List EventLine) ScriptError
event_line names n l =
    if is_skipped l then Ok []
    else at_line n (event_of names n (words_of l)) >>= (λ e. Ok (e ∷ []))

-- an event file by its head, and the lines behind it
abbrev pub events_behind : ℕ → List (List ℕ) → Names → Result Events ScriptError
events_behind n ls names =
    in_order (event_line names) n ls >>= (λ lines. Ok (record { sessions = names.sessions; workers = names.workers; lines = lines }))

-- the first line that isn't skipped is the head line; where there is none, MissingPart at line 1
abbrev pub events_from : ℕ → List (List ℕ) → Result Events ScriptError
events_from n [] = Err (Bad 1 MissingPart)
events_from n (l ∷ ls) =
    if is_skipped l then events_from (n + 1) ls
    else at_line n (head_of (words_of l)) >>= events_behind (n + 1) ls

-- an event file
unfoldable pub events_of : List ℕ → Result Events ScriptError
events_of bytes = limited (lines_of bytes) (events_from 1 (lines_of bytes))

-- a file is refused so, unless memory ran out
abbrev pub Refuses : {A : Type 0} → ScriptError → Result A ScriptError → Type 0
Refuses OutOfMemory whole = Unit {0}
Refuses refusal whole = whole ≡ Err refusal

-- what a function returned is what a file says, unless memory ran out
abbrev pub Gives : {A : Type 0} → Result A ScriptError → Result A ScriptError → Type 0
Gives (Ok x) whole = whole ≡ Ok x
Gives (Err e) whole = Refuses e whole

-- the same of what a function returned, seen by view
abbrev pub GivesBy : {X Y : Type 0} → (X → Y) → Result X ScriptError → Result Y ScriptError → Type 0
GivesBy view (Ok x) whole = whole ≡ Ok (view x)
GivesBy view (Err e) whole = Refuses e whole

-- the head line was read, and the lines behind it are left
abbrev pub IsHead : List (List ℕ) → List (List ℕ) → Result Head ScriptError → Type 0
IsHead old new (Ok head) = events_from 1 old ≡ events_behind head.next new head.names
IsHead old new (Err e) = events_from 1 old ≡ Err e

-- what was added to a list is what a line says, unless memory ran out
abbrev pub Adds : {A : Type 0} → List A → List A → Result (Unit {0}) ScriptError → Result (List A) ScriptError → Type 0
Adds before after (Ok u) here = behind before here ≡ Ok after
Adds before after (Err e) here = Refuses e here
