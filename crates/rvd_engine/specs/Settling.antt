-- The Settled step that an event brings about, told before the event is done. Use `settled_if` for its number, and `kept_of`
-- for the items that a rollback would give back; `settles_by` tells it of an offer's outcome.
use Rattle.std.specs.Prelude.{ℕ, ◌+◌, Bool, ◌&&◌, ◌||◌, not, ◌==◌, List, [], length, Option, Some, None, if◌then◌else◌}
use Rattle.rvd_ask.specs.declared.asks.Item.{Item}
use Rattle.rvd_judge.specs.Batches.{is_none_in}
use Rattle.rvd_machine.specs.State.{State, Open, is_open}
use Rattle.rvd_engine.specs.declared.offers.Outcome.{Outcome}

-- the number of the Settled step that follows so many steps, where it does
abbrev pub settled_if : Bool → ℕ → Option ℕ
settled_if settles steps = if settles then Some (steps + 1) else None

-- the items that a rollback gives back
abbrev pub kept_of : Option Open → List Item
kept_of None = []
kept_of (Some o) = o.kept

-- whether a Settled step follows an offer with this outcome: with changes, its commit makes the end due
abbrev pub settles_by : State → Outcome → Bool
settles_by s o =
    s.whole && ((s.due || not (is_none_in o.changes.items))
    && (not (is_open s.current) && ((length o.again.items == 0 && length s.queue == 0) && length s.taken == 1)))
