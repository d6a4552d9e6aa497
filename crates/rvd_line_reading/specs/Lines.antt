-- A whole line: `line_of` is what a line is read as, by a reader that may read more lines than are printed. `IsInRange` says
-- that an entry's parts are in the ranges of their types, and `IsNoLine` that no such entry has a line.
use Rattle.std.specs.Prelude.{◌≡◌, ℕ, ◌+◌, ◌^◌, ◌<◌, Bool, true, ◌&&◌, nat_lt, nat_le, List, [], ◌∷◌, Option, Some, None, Result, Ok, Err, codes}
use Rattle.rvd_event.specs.declared.queries.Names.{Names}
use Rattle.rvd_journal.specs.declared.entries.Entry.{Entry}
use Rattle.rvd_reading.specs.declared.errors.ReadError.{ReadError}
use Rattle.rvd_reading.specs.declared.errors.ReadError.TheVariants as error
use Rattle.rvd_reading.specs.Steps.{◌>>=◌, Step, behind}
use Rattle.rvd_reading.specs.Fixed.{choose, just}
use Rattle.rvd_reading.specs.Numbers.{number_of}
use Rattle.rvd_reading.specs.Actors.{actor_of}
use Rattle.rvd_journal_text.specs.Lines.{entry_line}
use Rattle.rvd_journal_reading.specs.Refusals.{counted}
use Rattle.rvd_line_reading.specs.Replies.{FitsReply, are_formed, bare_reply, reply_of}
use Rattle.rvd_line_reading.specs.Events.{FitsEvent, event_of}

-- the Settled step that a call brought about, if any
abbrev pub settled_of : List ℕ → Step (Option ℕ)
settled_of bytes = choose ((codes "; settled ", counted Some 18446744073709551615) ∷ []) (just None) bytes

unfoldable pub call_of : Names → List ℕ → Step Entry
call_of names bytes = do
  actor ← actor_of names bytes
  gap ← behind (codes " ") actor.1
  event ← event_of gap.1
  sign ← behind (codes " = ") event.1
  reply ← reply_of sign.1
  settled ← settled_of reply.1
  Some (record { actor = actor.0; event = event.0; reply = reply.0; settled = settled.0 }, settled.1)

-- the number of an entry, and the entry
unfoldable pub entry_of : Names → List ℕ → Step (ℕ × Entry)
entry_of names bytes = do
  number ← number_of 18446744073709551615 bytes
  gap ← behind (codes " ") number.1
  call ← call_of names gap.1
  Some ((number.0, call.0), call.1)

-- what was read, where nothing stays behind it
abbrev pub nothing_behind : {A : Type 0} → A → List ℕ → Option A
nothing_behind x [] = Some x
nothing_behind x (c ∷ cs) = None

-- the number and the entry of a whole line
unfoldable pub line_of : Names → List ℕ → Option (ℕ × Entry)
line_of names bytes = entry_of names bytes >>= (λ r. nothing_behind r.0 r.1)

-- a whole line was read, unless memory runs out
abbrev pub ReadsLine : Result (ℕ × Entry) ReadError → Option (ℕ × Entry) → Type 0
ReadsLine (Ok r) line = line ≡ Some r
ReadsLine (Err error.Unread) line = line ≡ None
ReadsLine (Err error.OutOfMemory) line = Unit {0}

-- an actor is a session or a worker
abbrev pub is_actor : Names → ℕ → Bool
is_actor names actor = nat_lt 0 actor && nat_le actor (names.sessions + names.workers)

abbrev pub FitsSettled : Option ℕ → Type 0
FitsSettled None = Unit {0}
FitsSettled (Some step) = step < 2 ^ 64

-- an entry of a session or a worker, whose parts are in the ranges of their types; each answer of a verdict has the form of
-- its ask
pub record IsInRange (names : Names) (entry : Entry) : Type 0 where
  pub known : is_actor names entry.actor ≡ true
  pub actor : entry.actor < 2 ^ 32
  pub event : FitsEvent entry.event
  pub reply : FitsReply entry.reply
  pub forms : are_formed entry.reply ≡ true
  pub settled : FitsSettled entry.settled

-- what the line of an entry tells of it: all but the bytes of blocks
abbrev pub bare_entry : Entry → Entry
bare_entry e = record { actor = e.actor; event = e.event; reply = bare_reply e.reply; settled = e.settled }

-- no entry has this line
abbrev pub IsNoLine : Names → List ℕ → Type 0
IsNoLine names line = (number : ℕ) (entry : Entry) → number < 2 ^ 64 → IsInRange names entry → entry_line names number entry ≡ line → ⊥

-- a number and an entry have this line
abbrev pub IsLine : Names → List ℕ → ℕ × Entry → Type 0
IsLine names line r = (entry_line names r.0 r.1 ≡ line) × IsInRange names r.1
