-- What a call of the machine does. Use `Answers` for the reply and the state before the call is counted, `Performed` for a
-- whole step, and `IsReady` for the states from which calls are made.
use Rattle.std.specs.Prelude.{◌≡◌, ℕ, ◌+◌, ◌<◌, ◌≤◌, Bool, true, false, not, Option}
use Rattle.rvd_event.specs.declared.events.Event.{Event}
use Rattle.rvd_event.specs.declared.events.Event.TheVariants as event
use Rattle.rvd_event.specs.declared.replies.Reply.{Reply}
use Rattle.rvd_event.specs.declared.replies.Reply.TheVariants.{Job, Verdicts}
use Rattle.rvd_machine.specs.State.{State}
use Rattle.rvd_machine.specs.Moves.{settled, settled_step}
use Rattle.rvd_machine.specs.Ranges.{is_reply}
use Rattle.rvd_machine.specs.Replies.{IsReply, is_not_yet}
use Rattle.rvd_machine.specs.Steps.{AreJobs, counted, max_entries, moved}

-- the journal isn't full, its length bounds the numbers of entries and of tickets, and the jobs' tickets rise
pub record IsReady (s : State) : Type 0 where
  pub few : s.count < max_entries
  pub entries : s.next_entry ≤ s.count + 1
  pub tickets : s.next_ticket ≤ s.count + 1
  pub jobs : AreJobs 1 s.next_ticket s.taken

-- an event was answered, and this is the state before it is counted
pub record Answers (old new : State) (actor : ℕ) (e : Event) (r : Reply) : Type 0 where
  pub reply : IsReply old actor e r
  pub state : new ≡ moved old actor e r

-- an event was answered and counted, and the Settled step that follows is noted
pub record Performed (old new : State) (actor : ℕ) (e : Event) (r : Reply) (noted : Option ℕ) : Type 0 where
  pub reply : IsReply old actor e r
  pub parts : is_reply r ≡ true
  pub named : noted ≡ settled_step (moved old actor e r)
  pub state : new ≡ settled (counted (moved old actor e r))

-- a reply of numbers alone, which the calls of sessions get
abbrev pub is_plain : Reply → Bool
is_plain (Job ticket items) = false
is_plain (Verdicts verdicts) = false
is_plain r = true

-- an event of a session that has a step: a wait that goes on has none
abbrev pub is_session_step : State → Event → Bool
is_session_step s event.Wait = not (is_not_yet s)
is_session_step s (event.Take n) = false
is_session_step s (event.Offer ticket) = false
is_session_step s e = true
