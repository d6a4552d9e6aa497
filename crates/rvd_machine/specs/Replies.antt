-- What the machine answers. Use `refused` for the first refusal in order, `reply_to` for the one reply to an event other than
-- an offer, `IsReply` for the replies to any event, and `is_not_yet`, `is_finished` and `is_idle` where there is none.
use Rattle.std.specs.Prelude.{◌≡◌, ℕ, ◌+◌, ◌≤◌, Bool, true, false, ◌&&◌, ◌||◌, not, nat_lt, nat_le, ◌==◌, List, [], ◌∷◌, length, take, Option, Some, None, Result, Ok, Err, if◌then◌else◌}
use Rattle.rvd_fact.specs.declared.cells.Change.{Change}
use Rattle.rvd_event.specs.declared.edits.EditRefusal.{EditRefusal}
use Rattle.rvd_event.specs.declared.events.Event.{Event}
use Rattle.rvd_event.specs.declared.events.Event.TheVariants as event
use Rattle.rvd_event.specs.declared.replies.Reply.{Reply}
use Rattle.rvd_event.specs.declared.replies.Reply.TheVariants as reply
use Rattle.rvd_event.specs.declared.replies.Refusal.{Refusal}
use Rattle.rvd_event.specs.declared.replies.Refusal.TheVariants as refusal
use Rattle.rvd_event.specs.declared.steps.Step.{Step}
use Rattle.rvd_event.specs.declared.steps.Step.TheVariants as step
use Rattle.rvd_edit.specs.Edits.{edit_of}
use Rattle.rvd_machine.specs.State.{State, Open, Job, work, lives, lives_of, is_open, is_doomed, is_session, is_quiet, job_of}
use Rattle.rvd_machine.specs.Verdicts.{first_batch, AreVerdicts}
use Rattle.rvd_machine.specs.Moves.{entry_ended}

-- refused where this holds
abbrev pub refused_if : Bool → Refusal → Option Refusal
refused_if test r = if test then Some r else None

abbrev pub edit_refusal : Result (List Change) EditRefusal → Option Refusal
edit_refusal (Ok changes) = None
edit_refusal (Err r) = Some (refusal.Edit r)

-- the first of two refusals
abbrev pub first_refusal : Option Refusal → Option Refusal → Option Refusal
first_refusal None second = second
first_refusal (Some r) second = Some r

-- the number of the next step
abbrev pub next_step : State → ℕ
next_step s = length s.steps + 1

-- the first refusal of an open session's event, in order
abbrev pub refused_open : State → ℕ → Event → Option Refusal
refused_open s actor (event.Begin text) = refused_if (nat_le 64 (lives s)) refusal.TooManyEntries
refused_open s actor (event.Edit e) = first_refusal (refused_if (lives_of s actor == 0) refusal.NoTransaction) (edit_refusal (edit_of (work s) e))
refused_open s actor (event.End keep) = refused_if (lives_of s actor == 0) refusal.NoTransaction
refused_open s actor event.Undo = first_refusal (refused_if (is_open s.current) (refusal.TransactionOpen (lives s))) (refused_if (length s.history.past == 0) refusal.NothingToUndo)
refused_open s actor event.Redo = first_refusal (refused_if (is_open s.current) (refusal.TransactionOpen (lives s))) (refused_if (length s.history.undone == 0) refusal.NothingToRedo)
refused_open s actor event.Wait = refused_if (nat_lt 0 (lives_of s actor)) (refusal.HasEntry (lives_of s actor))
refused_open s actor e = None

abbrev pub refused : State → ℕ → Event → Option Refusal
refused s actor e = if is_session actor s.open_sessions then refused_open s actor e else Some refusal.NoSession

-- the reply to an edit and to an end that aren't refused
abbrev pub edit_reply : Result (List Change) EditRefusal → Option Reply
edit_reply (Ok changes) = Some (reply.Changed (length changes))
edit_reply (Err r) = None

abbrev pub end_reply_open : State → Open → Reply
end_reply_open s o =
    if nat_lt 0 (length o.entries) then reply.Waiting (length o.entries)
    else if o.aborted then reply.RolledBack
    else reply.Committed (next_step s)

abbrev pub end_reply : State → ℕ → Bool → Option Open → Option Reply
end_reply s actor keep None = None
end_reply s actor keep (Some o) = Some (end_reply_open s (entry_ended actor keep o))

-- the number of the last Settled step, or 0
abbrev pub is_settled : Step → Bool
is_settled step.Settled = true
is_settled x = false

abbrev pub last_settled_from : ℕ → ℕ → List Step → ℕ
last_settled_from number found [] = found
last_settled_from number found (x ∷ steps) = last_settled_from (number + 1) (if is_settled x then number else found) steps

abbrev pub last_settled : List Step → ℕ
last_settled steps = last_settled_from 1 0 steps

-- whether a wait goes on: a whole analysis stands, and its end is due or something is open, queued or taken
abbrev pub is_not_yet : State → Bool
is_not_yet s = s.whole && (s.due || not (is_quiet s))

abbrev pub wait_reply : State → Reply
wait_reply s = if s.whole then reply.SettledAt (last_settled s.steps) else reply.Voided

-- whether workers are finished: all sessions are closed, and nothing is open, queued or taken
abbrev pub is_finished : State → Bool
is_finished s = length s.open_sessions == 0 && is_quiet s

-- else, whether they are idle: nothing is queued, or an entry of the open transaction aborted
abbrev pub is_idle : State → Bool
is_idle s = length s.queue == 0 || is_doomed s.current

-- whether a take of n items gives no job
abbrev pub takes_none : State → ℕ → Bool
takes_none s n = n == 0 || (nat_lt 64 n || (is_finished s || is_idle s))

abbrev pub take_reply : State → ℕ → Option Reply
take_reply s n = if takes_none s n then None else Some (reply.Job s.next_ticket (take n s.queue))

-- the reply to an event that isn't refused; None where there is no step, and for an offer, which has several
abbrev pub granted : State → ℕ → Event → Option Reply
granted s actor (event.Begin text) = Some (reply.Entry s.next_entry)
granted s actor (event.Edit e) = edit_reply (edit_of (work s) e)
granted s actor (event.End keep) = end_reply s actor keep s.current
granted s actor event.Undo = Some (reply.StepNo (next_step s))
granted s actor event.Redo = Some (reply.StepNo (next_step s))
granted s actor event.Full = Some (reply.StepNo (next_step s))
granted s actor event.Cancel = Some (reply.StepNo (next_step s))
granted s actor (event.Enable a on) = Some (reply.StepNo (next_step s))
granted s actor event.Read = Some (reply.At (length s.steps))
granted s actor event.Wait = Some (wait_reply s)
granted s actor event.Close = Some (reply.Closed (lives_of s actor))
granted s actor (event.Take n) = take_reply s n
granted s actor (event.Offer ticket) = None

abbrev pub answered : State → ℕ → Event → Option Refusal → Option Reply
answered s actor e (Some r) = Some (reply.Refused r)
answered s actor e None = granted s actor e

-- the machine's one reply to an event other than an offer; None where there is no step. A wait that goes on is no step,
-- whoever waits, and workers' events aren't refused for a session
abbrev pub reply_to : State → ℕ → Event → Option Reply
reply_to s actor event.Wait = if is_not_yet s then None else answered s actor event.Wait (refused s actor event.Wait)
reply_to s actor (event.Take n) = take_reply s n
reply_to s actor (event.Offer ticket) = None
reply_to s actor e = answered s actor e (refused s actor e)

-- the replies to an offer of a job that is taken, and of any ticket
abbrev pub IsJobReply : State → Job → Reply → Type 0
IsJobReply s job (reply.Verdicts verdicts) = AreVerdicts s.enabled job.program (first_batch s) job.items verdicts
IsJobReply s job (reply.Refused (refusal.Misfit place)) = place ≤ length job.items
IsJobReply s job r = ⊥

abbrev pub IsOfferReply : State → ℕ → Option Job → Reply → Type 0
IsOfferReply s ticket None r = r ≡ reply.Refused (refusal.Cancelled ticket)
IsOfferReply s ticket (Some job) r = IsJobReply s job r

-- the replies to an event
abbrev pub IsReply : State → ℕ → Event → Reply → Type 0
IsReply s actor (event.Offer ticket) r = IsOfferReply s ticket (job_of ticket s.taken) r
IsReply s actor e r = reply_to s actor e ≡ Some r
