-- The state of the machine. Use `first_state` for the start, `base` for the committed program, `work` for the one that
-- edits see, `lives` and `lives_of` for the live entries of the open transaction, `waits` for an item that is queued or
-- taken, and `is_quiet` where nothing is left to do.
use Rattle.std.specs.Prelude.{ℕ, zero, suc, Bool, true, false, not, ◌==◌, ◌&&◌, ◌||◌, List, [], ◌∷◌, ◌++◌, length, filter, Option, Some, None, if◌then◌else◌}
use Rattle.std.specs.List.{list_any}
use Rattle.rvd_fact.specs.Program.{Program}
use Rattle.rvd_ask.specs.declared.asks.Item.{Item}
use Rattle.rvd_ask.specs.Unsettled.{has_item}
use Rattle.rvd_event.specs.declared.steps.Step.{Step}
use Rattle.rvd_trans.specs.declared.entries.Entry.{Entry}
use Rattle.rvd_trans.specs.Entries.{count_of}
use Rattle.rvd_undo.specs.History.{History}
use Rattle.rvd_machine.specs.Enabled.{Enabled, all_on}

-- an open transaction: its working program, who opened it and with which text, its live entries from the oldest on,
-- whether an entry aborted, the number of its changes, and the items that a rollback gives back
pub record Open : Type 0 where
  pub work : Program
  pub opener : ℕ
  pub text : List ℕ
  pub entries : List Entry
  pub aborted : Bool
  pub changes : ℕ
  pub kept : List Item

-- a job that is taken: its ticket, its items, and the working program on which it was taken
pub record Job : Type 0 where
  pub ticket : ℕ
  pub items : List Item
  pub program : Program

-- the numbers of sessions and of workers, how many entries the journal has, the history of committed programs, the
-- steps, the open transaction, the items that are queued, the jobs that are taken from the oldest on, the numbers of the
-- next entry of a transaction and of the next ticket, which analyzers are enabled, whether a whole analysis stands,
-- whether its end is due, and the open sessions
pub record State : Type 0 where
  pub sessions : ℕ
  pub workers : ℕ
  pub count : ℕ
  pub history : History
  pub steps : List Step
  pub current : Option Open
  pub queue : List Item
  pub taken : List Job
  pub next_entry : ℕ
  pub next_ticket : ℕ
  pub enabled : Enabled
  pub whole : Bool
  pub due : Bool
  pub open_sessions : List ℕ

-- the committed program
abbrev pub base : State → Program
base s = s.history.now

-- the working program, or the committed one where nothing is open
abbrev pub work_in : Program → Option Open → Program
work_in base None = base
work_in base (Some open_one) = open_one.work

abbrev pub work : State → Program
work s = work_in (base s) s.current

-- how many entries are live, and how many of an actor's
abbrev pub lives_in : Option Open → ℕ
lives_in None = 0
lives_in (Some open_one) = length open_one.entries

abbrev pub lives : State → ℕ
lives s = lives_in s.current

abbrev pub lives_of_in : ℕ → Option Open → ℕ
lives_of_in actor None = 0
lives_of_in actor (Some open_one) = count_of actor open_one.entries

abbrev pub lives_of : State → ℕ → ℕ
lives_of s actor = lives_of_in actor s.current

-- whether a transaction is open, and whether one is in which an entry aborted
abbrev pub is_open : Option Open → Bool
is_open None = false
is_open (Some open_one) = true

abbrev pub is_doomed : Option Open → Bool
is_doomed None = false
is_doomed (Some open_one) = open_one.aborted

-- whether a session is open, and the sessions without one
abbrev pub is_session : ℕ → List ℕ → Bool
is_session actor sessions = list_any (λ (session : ℕ). session == actor) sessions

abbrev pub without : ℕ → List ℕ → List ℕ
without actor sessions = filter (λ (session : ℕ). not (session == actor)) sessions

-- whether an item is in a job that is taken, and the items of all these jobs
abbrev pub is_taken : Item → List Job → Bool
is_taken i [] = false
is_taken i (job ∷ jobs) = has_item i job.items || is_taken i jobs

abbrev pub taken_items : List Job → List Item
taken_items [] = []
taken_items (job ∷ jobs) = job.items ++ taken_items jobs

-- whether an item is queued or taken
abbrev pub waits : State → Item → Bool
waits s i = has_item i s.queue || is_taken i s.taken

-- the job of a ticket, and the other jobs
abbrev pub job_of : ℕ → List Job → Option Job
job_of ticket [] = None
job_of ticket (job ∷ jobs) = if job.ticket == ticket then Some job else job_of ticket jobs

abbrev pub other_jobs : ℕ → List Job → List Job
other_jobs ticket [] = []
other_jobs ticket (job ∷ jobs) = if job.ticket == ticket then jobs else job ∷ other_jobs ticket jobs

-- whether nothing is open, queued or taken
abbrev pub is_quiet : State → Bool
is_quiet s = not (is_open s.current) && (length s.queue == 0 && length s.taken == 0)

-- the numbers from 1 to n
abbrev pub up_to : ℕ → List ℕ
up_to zero = []
up_to (suc n) = up_to n ++ suc n ∷ []

-- the state at the start: all sessions are open, all analyzers are enabled, and nothing has happened
abbrev pub first_state : Program → ℕ → ℕ → State
first_state P sessions workers = record {
  sessions = sessions;
  workers = workers;
  count = 0;
  history = record { past = []; now = P; undone = [] };
  steps = [];
  current = None;
  queue = [];
  taken = [];
  next_entry = 1;
  next_ticket = 1;
  enabled = all_on;
  whole = false;
  due = false;
  open_sessions = up_to sessions;
}
