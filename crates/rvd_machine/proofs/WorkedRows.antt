-- Worked rows by computation: what the machine of the definitions answers to events, one after the other.
use Rattle.std.proofs.Common.{◌≡◌, ℕ, zero, suc, true, false, List, [], ◌∷◌, Option, Some, None, refl}
use Rattle.rvd_ask.specs.declared.asks.Analyzer.TheVariants.{Flow}
use Rattle.rvd_ask.specs.declared.asks.Item.{Item}
use Rattle.rvd_event.specs.declared.events.Event.{Event}
use Rattle.rvd_event.specs.declared.events.Event.TheVariants as event
use Rattle.rvd_event.specs.declared.replies.Reply.{Reply}
use Rattle.rvd_event.specs.declared.replies.Reply.TheVariants as reply
use Rattle.rvd_event.specs.declared.replies.Refusal.TheVariants as refusal
use Rattle.rvd_machine.specs.State.{State, first_state}
use Rattle.rvd_machine.specs.Moves.{settled}
use Rattle.rvd_machine.specs.Replies.{reply_to, is_finished, is_idle}
use Rattle.rvd_machine.specs.Steps.{counted, moved, has_room}

abbrev after_reply : State → ℕ → Event → Option Reply → State
after_reply s a e None = s
after_reply s a e (Some r) = settled (counted (moved s a e r))

abbrev Calls : Type 0
Calls = List (ℕ × Event)

abbrev state_after : State → Calls → State
state_after s [] = s
state_after s (c ∷ calls) = state_after (after_reply s c.0 c.1 (reply_to s c.0 c.1)) calls

abbrev replies : State → Calls → List (Option Reply)
replies s [] = []
replies s (c ∷ calls) = reply_to s c.0 c.1 ∷ replies (after_reply s c.0 c.1 (reply_to s c.0 c.1)) calls

-- one session: a wait in a transaction is refused, an abort leaves nothing to undo, and a closed session has no more calls
alone : replies (first_state [] 1 0) ((1, event.Wait) ∷ (1, event.Begin []) ∷ (1, event.Wait) ∷ (1, event.Undo) ∷ (1, event.End false) ∷ (1, event.Undo) ∷ (1, event.Cancel) ∷ (1, event.Read) ∷ (1, event.Close) ∷ (1, event.Read) ∷ (1, event.Close) ∷ [])
    ≡ Some reply.Voided ∷ Some (reply.Entry 1) ∷ Some (reply.Refused (refusal.HasEntry 1)) ∷ Some (reply.Refused (refusal.TransactionOpen 1)) ∷ Some reply.RolledBack ∷ Some (reply.Refused refusal.NothingToUndo) ∷ Some (reply.StepNo 1) ∷ Some (reply.At 1) ∷ Some (reply.Closed 0) ∷ Some (reply.Refused refusal.NoSession) ∷ Some (reply.Refused refusal.NoSession) ∷ []
alone = refl

-- 51 commits: 50 of them can be undone, and a further commit leaves nothing to redo
abbrev commits : ℕ → Calls → Calls
commits zero calls = calls
commits (suc n) calls = (1, event.Begin []) ∷ (1, event.End true) ∷ commits n calls

abbrev undos : ℕ → Calls
undos zero = []
undos (suc n) = (1, event.Undo) ∷ undos n

depth : replies (state_after (first_state [] 1 0) (commits 51 (undos 49))) ((1, event.Undo) ∷ (1, event.Undo) ∷ (1, event.Begin []) ∷ (1, event.End true) ∷ (1, event.Redo) ∷ [])
    ≡ Some (reply.StepNo 101) ∷ Some (reply.Refused refusal.NothingToUndo) ∷ Some (reply.Entry 52) ∷ Some (reply.Committed 102) ∷ Some (reply.Refused refusal.NothingToRedo) ∷ []
depth = refl

-- two sessions and a worker: while an entry of the open transaction has aborted no job is given, and the item of a job that
-- was taken before it was rolled back is queued again
abbrev item : Item
item = record { analyzer = Flow; at = 65620 }

abbrev started : State
started = record (first_state [] 2 1) { queue = item ∷ []; whole = true; due = true }

rolled : replies started ((1, event.Begin []) ∷ (2, event.Begin []) ∷ (3, event.Take 1) ∷ (2, event.End false) ∷ (3, event.Take 1) ∷ (1, event.End true) ∷ (3, event.Take 1) ∷ (1, event.Wait) ∷ (1, event.Cancel) ∷ (1, event.Wait) ∷ [])
    ≡ Some (reply.Entry 1) ∷ Some (reply.Entry 2) ∷ Some (reply.Job 1 (item ∷ [])) ∷ Some (reply.Waiting 1) ∷ None ∷ Some reply.RolledBack ∷ Some (reply.Job 2 (item ∷ [])) ∷ None ∷ Some (reply.StepNo 1) ∷ Some reply.Voided ∷ []
rolled = refl

-- the commit that ends a whole analysis notes a Settled step of its own
ended : replies (record (first_state [] 1 0) { whole = true; due = true }) ((1, event.Wait) ∷ (1, event.Begin []) ∷ (1, event.End true) ∷ (1, event.Wait) ∷ [])
    ≡ None ∷ Some (reply.Entry 1) ∷ Some (reply.Committed 1) ∷ Some (reply.SettledAt 2) ∷ []
ended = refl

-- where all sessions are closed and nothing is left to do, workers are finished and not merely idle
abbrev closing : State
closing = state_after (first_state [] 1 1) ((1, event.Close) ∷ [])

finished : is_finished closing ≡ true
finished = refl

not_finished : is_finished (first_state [] 1 1) ≡ false
not_finished = refl

idle : is_idle (first_state [] 1 1) ≡ true
idle = refl

-- the room rule: a begin needs two entries beside those that are kept, and the close of an open session has its own
abbrev late : ℕ → State
late count = record (first_state [] 1 0) { count = count }

room : has_room (late 999997) 1 (event.Begin []) ≡ true
room = refl

no_room : has_room (late 999998) 1 (event.Begin []) ≡ false
no_room = refl

read_room : has_room (late 999998) 1 event.Read ≡ true
read_room = refl

no_read_room : has_room (late 999999) 1 event.Read ≡ false
no_read_room = refl

close_room : has_room (late 999999) 1 event.Close ≡ true
close_room = refl
