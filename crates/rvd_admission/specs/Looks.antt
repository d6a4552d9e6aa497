-- What an event would leave, told before it is done. Use `live_after_end` for the entries that an end leaves, and `IsAfter` for
-- the Settled step that follows a session's event.
use Rattle.std.specs.Prelude.{◌≡◌, ℕ, ◌+◌, Bool, true, false, ◌&&◌, ◌==◌, not, [], length, Option, Some, None}
use Rattle.rvd_event.specs.declared.events.Event.{Event}
use Rattle.rvd_event.specs.declared.events.Event.TheVariants as event
use Rattle.rvd_trans.specs.Entries.{without_newest}
use Rattle.rvd_machine.specs.Moves.{move, settled_step}
use Rattle.rvd_machine.specs.State.{State, Open, is_open}
use Rattle.rvd_engine.specs.Settling.{kept_of, settled_if}

-- how many entries are live after an actor's end
abbrev pub live_after_end_in : Option Open → ℕ → ℕ
live_after_end_in None actor = 0
live_after_end_in (Some o) actor = length (without_newest actor o.entries)

abbrev pub live_after_end : State → ℕ → ℕ
live_after_end s actor = live_after_end_in s.current actor

-- the Settled step that follows the open transaction's rollback, and its commit
abbrev pub after_rollback : State → Option ℕ
after_rollback s =
    settled_if (s.whole && (s.due && ((length (kept_of s.current) == 0 && length s.queue == 0) && length s.taken == 0))) (length s.steps)

abbrev pub after_commit : State → Option ℕ
after_commit s = settled_if (s.whole && (length s.queue == 0 && length s.taken == 0)) (length s.steps + 1)

-- whether the end of an analysis is due, and nothing is open or taken
abbrev pub stands : State → Bool
stands s = s.whole && (s.due && (not (is_open s.current) && length s.taken == 0))

-- the Settled step that follows a session's event that isn't refused
abbrev pub IsAfter : State → ℕ → Event → Option ℕ → Type 0
IsAfter s actor e noted = settled_step (move s actor e []) ≡ noted

-- the events of sessions
abbrev pub is_sessions : Event → Bool
is_sessions (event.Take n) = false
is_sessions (event.Offer ticket) = false
is_sessions e = true
