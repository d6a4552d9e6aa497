-- Which entries are steps of the machine, which journals are legal, and the state that a journal leads to. Use `IsLegal` and
-- `state` for what a run promises, and `base_at` for the program that a read of so many steps has.
use Rattle.std.specs.Prelude.{◌≡◌, ℕ, ◌+◌, ◌*◌, ◌≤◌, Bool, true, false, ◌&&◌, ◌||◌, nat_lt, nat_le, List, [], ◌∷◌, ◌++◌, length, if◌then◌else◌}
use Rattle.rvd_fact.specs.Program.{Program}
use Rattle.rvd_fact.specs.Valid.{IsValid}
use Rattle.rvd_event.specs.declared.events.Event.{Event}
use Rattle.rvd_event.specs.declared.events.Event.TheVariants as event
use Rattle.rvd_event.specs.declared.replies.Reply.{Reply}
use Rattle.rvd_event.specs.declared.replies.Reply.TheVariants as reply
use Rattle.rvd_event.specs.declared.verdicts.Verdict.{Verdict}
use Rattle.rvd_journal.specs.declared.entries.Entry.{Entry}
use Rattle.rvd_journal.specs.Entries.{is_event}
use Rattle.rvd_machine.specs.State.{State, Job, base, lives, lives_of, is_session, first_state}
use Rattle.rvd_machine.specs.Moves.{move, settled, settled_step}
use Rattle.rvd_machine.specs.Replies.{IsReply}
use Rattle.rvd_machine.specs.Ranges.{is_reply}

-- the most entries of a journal
abbrev pub max_entries : ℕ
max_entries = 1000000

-- who may call: workers take and offer, and each actor the rest
abbrev pub is_worker : State → ℕ → Bool
is_worker s actor = nat_lt s.sessions actor && nat_le actor (s.sessions + s.workers)

abbrev pub may_call : State → ℕ → Event → Bool
may_call s actor (event.Take n) = is_worker s actor
may_call s actor (event.Offer ticket) = is_worker s actor
may_call s actor e = nat_lt 0 actor && nat_le actor (s.sessions + s.workers)

-- the room that a call needs, and the rooms that are kept for the ends of live entries and for open sessions; an end of a
-- live entry and the close of an open session have rooms of their own
abbrev pub need : Event → ℕ
need (event.Begin text) = 2
need e = 1

abbrev pub kept_rooms : State → ℕ
kept_rooms s = lives s + length s.open_sessions

abbrev pub has_own_room : State → ℕ → Event → Bool
has_own_room s actor (event.End keep) = nat_lt 0 (lives_of s actor)
has_own_room s actor event.Close = is_session actor s.open_sessions
has_own_room s actor e = false

abbrev pub has_room : State → ℕ → Event → Bool
has_room s actor e = has_own_room s actor e || nat_le (s.count + kept_rooms s + need e) max_entries

-- a refused event changes nothing but the number of entries
abbrev pub is_refused : Reply → Bool
is_refused (reply.Refused r) = true
is_refused r = false

abbrev pub verdicts_in : Reply → List Verdict
verdicts_in (reply.Verdicts verdicts) = verdicts
verdicts_in r = []

abbrev pub moved : State → ℕ → Event → Reply → State
moved s actor e r = if is_refused r then s else move s actor e (verdicts_in r)

-- the state after an entry
abbrev pub counted : State → State
counted s = record s { count = s.count + 1 }

abbrev pub after : State → Entry → State
after s e = settled (counted (moved s e.actor e.event e.reply))

-- an entry that is a step from a state: its parts are in their ranges, its actor may call and has room, its reply is one
-- of the machine's, and it names the Settled step that follows, where one does
pub record IsStep (s : State) (e : Entry) : Type 0 where
  pub event : is_event e.event ≡ true
  pub parts : is_reply e.reply ≡ true
  pub actor : may_call s e.actor e.event ≡ true
  pub room : has_room s e.actor e.event ≡ true
  pub reply : IsReply s e.actor e.event e.reply
  pub settled : e.settled ≡ settled_step (moved s e.actor e.event e.reply)

-- a head: the program, and the numbers of sessions and of workers
pub record Head : Type 0 where
  pub program : Program
  pub sessions : ℕ
  pub workers : ℕ

abbrev pub start_of : Head → State
start_of h = first_state h.program h.sessions h.workers

-- the state that entries lead to
abbrev pub state_from : State → List Entry → State
state_from s [] = s
state_from s (e ∷ es) = state_from (after s e) es

abbrev pub state : Head → List Entry → State
state h J = state_from (start_of h) J

-- each entry is a step from the state before it
abbrev pub AreSteps : State → List Entry → Type 0
AreSteps s [] = Unit {0}
AreSteps s (e ∷ es) = IsStep s e × AreSteps (after s e) es

pub record IsLegal (h : Head) (J : List Entry) : Type 0 where
  pub valid : IsValid h.program
  pub sessions : (1 ≤ h.sessions) × (h.sessions ≤ 16)
  pub workers : h.workers ≤ 8
  pub steps : AreSteps (start_of h) J

-- the committed program after the entry in which the n-th step was noted, where s is the state before these entries
abbrev pub base_at_from : ℕ → State → List Entry → Program
base_at_from n s [] = base s
base_at_from n s (e ∷ es) = if nat_le n (length s.steps) then base s else base_at_from n (after s e) es

abbrev pub base_at : Head → List Entry → ℕ → Program
base_at h J n = base_at_from n (start_of h) J

-- the committed program after a part of a journal is that of its number of steps, however the journal goes on
abbrev pub BaseIsAtSteps : Type 0
BaseIsAtSteps = (h : Head) (J K : List Entry) → base_at h (J ++ K) (length (state h J).steps) ≡ base (state h J)

-- the tickets of jobs rise from a number on, all below another, and each job has at most 64 items
abbrev pub AreJobs : ℕ → ℕ → List Job → Type 0
AreJobs from next [] = from ≤ next
AreJobs from next (job ∷ jobs) = (from ≤ job.ticket) × (length job.items ≤ 64) × AreJobs (job.ticket + 1) next jobs

-- what is bounded in the state after a journal of this length
pub record IsBounded (h : Head) (n : ℕ) (s : State) : Type 0 where
  pub sessions : s.sessions ≡ h.sessions
  pub workers : s.workers ≡ h.workers
  pub count : s.count ≡ n
  pub lives : lives s ≤ 64
  pub open_sessions : length s.open_sessions ≤ 16
  pub entries : s.next_entry ≤ n + 1
  pub tickets : s.next_ticket ≤ n + 1
  pub jobs : AreJobs 1 s.next_ticket s.taken
  pub steps : length s.steps ≤ 2 * n

-- the state after each legal journal is bounded
abbrev pub LegalIsBounded : Type 0
LegalIsBounded = (h : Head) (J : List Entry) → IsLegal h J → IsBounded h (length J) (state h J)
