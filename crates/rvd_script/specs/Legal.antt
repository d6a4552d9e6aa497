-- What every line that is read keeps: its actor is one of the file's, it asks for what that actor may ask for, and its parts
-- are in their ranges. Use `IsFile` and `IsScript` as the premises of whatever is done with the lines.
use Rattle.std.specs.Prelude.{◌≡◌, ℕ, ◌+◌, ◌≤◌, Bool, true, false, ◌&&◌, ◌||◌, nat_lt, nat_le, List, length}
use Rattle.std.specs.List.{All}
use Rattle.rvd_fact.specs.Valid.{is_text}
use Rattle.rvd_event.specs.Edits.{is_edit}
use Rattle.rvd_event.specs.declared.events.Event.{Event}
use Rattle.rvd_event.specs.declared.events.Event.TheVariants.{Begin, Edit, Take, Offer}
use Rattle.rvd_event.specs.declared.queries.Names.{Names}
use Rattle.rvd_script.specs.declared.actor_lines.Actor.{Actor}
use Rattle.rvd_script.specs.declared.actor_lines.Actor.TheVariants.{Session, Worker}
use Rattle.rvd_script.specs.declared.script_lines.What1.{What1}
use Rattle.rvd_script.specs.declared.script_lines.What1.TheVariants.{Call, Ask, Settle}
use Rattle.rvd_script.specs.declared.script_lines.ScriptLine.{ScriptLine}
use Rattle.rvd_script.specs.declared.script_lines.EventLine.{EventLine}

-- the number of items of a job
abbrev pub is_batch : ℕ → Bool
is_batch n = nat_le 1 n && nat_le n 64

-- a session's event: a text has at most 1,000 bytes, and an edit's parts are in their ranges
abbrev pub is_session_event : Event → Bool
is_session_event (Begin text) = is_text text
is_session_event (Edit edit) = is_edit edit
is_session_event (Take n) = false
is_session_event (Offer t) = false
is_session_event e = true

abbrev pub is_worker_event : Event → Bool
is_worker_event (Take n) = is_batch n
is_worker_event (Offer t) = true
is_worker_event e = false

-- what a session, and what a worker may ask for
abbrev pub is_session_what : What1 → Bool
is_session_what (Call event) = is_session_event event
is_session_what (Ask query) = true
is_session_what (Settle n) = false

abbrev pub is_worker_what : What1 → Bool
is_worker_what (Call event) = is_worker_event event
is_worker_what (Ask query) = false
is_worker_what (Settle n) = is_batch n

-- an actor of a file
abbrev pub IsActor : Names → Actor → Type 0
IsActor names (Session k) = (1 ≤ k) × (k ≤ names.sessions)
IsActor names (Worker k) = (1 ≤ k) × (k ≤ names.workers)

abbrev pub is_actor_what : Actor → What1 → Bool
is_actor_what (Session k) what = is_session_what what
is_actor_what (Worker k) what = is_worker_what what

-- what an actor of a file may ask for: sessions have the numbers from 1 on, then come the workers
abbrev pub is_of_actor : ℕ → ℕ → ℕ → What1 → Bool
is_of_actor sessions workers actor what =
    (nat_le 1 actor && (nat_le actor sessions && is_session_what what))
    || (nat_lt sessions actor && (nat_le actor (sessions + workers) && is_worker_what what))

abbrev pub is_line : ℕ → ℕ → EventLine → Bool
is_line sessions workers l = is_of_actor sessions workers l.actor l.what

-- a line of a script asks for what a session may ask for
abbrev pub is_script_line : ScriptLine → Bool
is_script_line l = is_session_what l.what

-- a script: its lines, at most 100,000
pub record IsScript (script : List ScriptLine) : Type 0 where
  pub count : length script ≤ 100000
  pub lines : All (λ l. is_script_line l ≡ true) script

-- what an event file says: how many sessions and workers there are, and its lines
pub record Events : Type 0 where
  pub sessions : ℕ
  pub workers : ℕ
  pub lines : List EventLine

-- an event file: 1 to 16 sessions, at most 8 workers, and at most 100,000 lines, each of one of them
pub record IsFile (events : Events) : Type 0 where
  pub some : 1 ≤ events.sessions
  pub sessions : events.sessions ≤ 16
  pub workers : events.workers ≤ 8
  pub count : length events.lines ≤ 100000
  pub lines : All (λ l. is_line events.sessions events.workers l ≡ true) events.lines
