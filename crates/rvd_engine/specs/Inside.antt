-- How the machine's parts stand for its state. Use `state_in` for it, and `IsWhole` for what the parts keep among them.
use Rattle.std.specs.Prelude.{◌≡◌, ◌<◌, Bool, true, false, List, length, map, Option, Some, None, vec_len, vec_capacity}
use Rattle.std.specs.Option.{option_map}
use Rattle.rvd_fact.specs.declared.cells.Change.{Change}
use Rattle.rvd_fact.specs.declared.keys.Kind.{Kind}
use Rattle.rvd_fact.specs.declared.keys.Kind.TheVariants.{Symbol, Comment}
use Rattle.rvd_fact.specs.Program.{Program, applied_all}
use Rattle.rvd_fact.specs.Valid.{Fits}
use Rattle.rvd_ask.specs.declared.asks.Item.{Item}
use Rattle.rvd_trans.specs.Transaction.{Transaction}
use Rattle.rvd_undo.specs.Records.{Stands, history}
use Rattle.rvd_queue.specs.Jobs.{Job as TakenJob}
use Rattle.rvd_machine.specs.Enabled.{Enabled}
use Rattle.rvd_machine.specs.State.{State, Open, Job}
use Rattle.rvd_engine.specs.declared.switches.Switches.{Switches}
use Rattle.rvd_engine.specs.declared.working.Working.{Working}
use Rattle.rvd_engine.specs.declared.machine.Machine.TheInside.{Inside}

-- which analyzers are enabled
abbrev pub enabled_of : Switches → Enabled
enabled_of x = record { flow = x.flow; refs = x.refs; funcs = x.funcs; body = x.body; strings = x.strings }

-- an open transaction from its working program, the transaction that its actors share, and the items that are kept
abbrev pub open_of : List Item → Program → Transaction → Open
open_of kept work t = record {
  work = work;
  opener = t.opener;
  text = t.text;
  entries = t.entries;
  aborted = t.aborted;
  changes = length t.changes;
  kept = kept;
}

abbrev pub open_in : List Item → Working → Open
open_in kept w = open_of kept w.work w.joint

abbrev pub current_in : List Item → Option Working → Option Open
current_in kept current = option_map (open_in kept) current

-- the jobs that are taken
abbrev pub job_in : TakenJob Program → Job
job_in job = record { ticket = job.ticket; items = job.items; program = job.program }

abbrev pub jobs_in : List (TakenJob Program) → List Job
jobs_in jobs = map job_in jobs

-- whether a change wakes nothing, whatever the program
abbrev pub is_quiet_kind : Kind → Bool
is_quiet_kind Symbol = true
is_quiet_kind Comment = true
is_quiet_kind k = false

abbrev pub wakes_nothing : Change → Bool
wakes_nothing c = is_quiet_kind c.key.kind

-- the changes of the open transaction lead from the committed program to the working one
abbrev pub LeadsFrom : Program → Option Working → Type 0
LeadsFrom base None = Unit {0}
LeadsFrom base (Some w) = Fits base w.joint.changes × (applied_all base w.joint.changes ≡ w.work)

abbrev pub state_in : Inside → State
state_in m = record {
  sessions = m.sessions;
  workers = m.workers;
  count = m.count;
  history = history m.base m.undos.records;
  steps = m.steps.items;
  current = current_in m.queues.kept m.current;
  queue = m.queues.queued;
  taken = jobs_in m.taken;
  next_entry = m.next_entry;
  next_ticket = m.next_ticket;
  enabled = enabled_of m.enabled;
  whole = m.whole;
  due = m.due;
  open_sessions = m.open_sessions.items;
}

-- the records stand for a history, the open transaction leads on from its last program, and where the end of an analysis is
-- due there is room for its step
pub record IsWhole (m : Inside) : Type 0 where
  pub stands : Stands m.base m.undos.records
  pub leads : LeadsFrom m.base m.current
  pub room : m.due ≡ true → vec_len m.steps < vec_capacity m.steps
