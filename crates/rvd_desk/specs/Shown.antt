-- What a call lets its caller see. Use `read_of` for the number of steps that a read tells, `shown_by` for what a call shows, and
-- `latest` for the latest that was seen.
use Rattle.std.specs.Prelude.{◌≡◌, ℕ, length, Option, Some, None}
use Rattle.std.specs.Option.{option_map}
use Rattle.rvd_event.specs.declared.events.Event.{Event}
use Rattle.rvd_event.specs.declared.events.Event.TheVariants as event
use Rattle.rvd_event.specs.declared.replies.Reply.{Reply}
use Rattle.rvd_event.specs.declared.replies.Reply.TheVariants as reply
use Rattle.rvd_machine.specs.State.{State, base}
use Rattle.rvd_desk.specs.declared.snapshots.Snapshot.{Snapshot}

-- the number of steps that a reply tells: that of a read that isn't refused
abbrev pub read_of : Event → Reply → Option ℕ
read_of event.Read (reply.At steps) = Some steps
read_of e r = None

-- such a read shows the committed program
abbrev pub shown_by : State → Event → Reply → Option Snapshot
shown_by s e r = option_map (λ (steps : ℕ). let x : Snapshot = record { program = base s; steps = steps } in x) (read_of e r)

abbrev pub latest : Snapshot → Option Snapshot → Snapshot
latest x None = x
latest x (Some y) = y

-- a snapshot shows a state: its committed program, and its number of steps
pub record Shows (s : State) (x : Snapshot) : Type 0 where
  pub program : x.program ≡ base s
  pub steps : x.steps ≡ length s.steps
