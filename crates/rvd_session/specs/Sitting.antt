-- What contracts see of a session, and what each of its calls makes of it. Use `Called` for a call that the desk answered, and
-- `Uncalled` for one that it didn't.
use Rattle.std.specs.Prelude.{◌≡◌, ℕ, ◌≤◌, false, List, Option, Some, None, Result, Ok, Err}
use Rattle.rvd_event.specs.declared.events.Event.{Event}
use Rattle.rvd_event.specs.declared.events.Event.TheVariants as event
use Rattle.rvd_event.specs.declared.replies.Reply.{Reply}
use Rattle.rvd_journal.specs.declared.entries.Entry.{Entry}
use Rattle.rvd_machine.specs.Steps.{Head, IsStep, state}
use Rattle.rvd_turn.specs.Story.{IsPrefix}
use Rattle.rvd_desk.specs.declared.snapshots.Snapshot.{Snapshot}
use Rattle.rvd_desk.specs.declared.answers.DeskError.{DeskError}
use Rattle.rvd_desk.specs.Calls.{Did}
use Rattle.rvd_desk.specs.Shown.{Shows, latest, shown_by}
use Rattle.rvd_desk.specs.Story.{Story, entry_of}
use Rattle.rvd_desk.specs.Turns.{Looked, NoAnswer, Passing, TurnOf, Unmade, added}

-- a session: its pass, and its latest read
pub record Sitting : Type 0 where
  pub pass : Passing
  pub read : Snapshot

-- a snapshot shows the state behind a part of the entries
pub record IsReadIn (h : Head) (seen : List Entry) (x : Snapshot) : Type 0 where
  pub part : List Entry
  pub begins : IsPrefix part seen
  pub shows : Shows (state h part) x

-- a session has the pass of its actor, which is one of the head's sessions, without the turn, and its latest read shows a part of
-- what the pass has seen
pub record Sits (actor : ℕ) (s : Sitting) : Type 0 where
  pub head : Head
  pub about : s.pass.head ≡ Some head
  pub number : s.pass.number ≡ actor
  pub idle : s.pass.turn ≡ false
  pub session : (1 ≤ actor) × (actor ≤ head.sessions)
  pub shows : IsReadIn head s.pass.seen s.read

-- what the latest read of a session shows
abbrev pub IsShown : Sitting → Type 0
IsShown s = (head : Head) × (s.pass.head ≡ Some head) × IsReadIn head s.pass.seen s.read

-- the pass is that of an actor which is a session of the story's head, and the snapshot is the program of the head with 0 steps
pub record IsFirst (pass : Passing) (actor : ℕ) (first : Snapshot) : Type 0 where
  pub head : Head
  pub about : pass.head ≡ Some head
  pub session : (1 ≤ actor) × (actor ≤ head.sessions)
  pub program : first.program ≡ head.program
  pub steps : first.steps ≡ 0

-- a call that the desk answered: the call is a step behind the story that the pass took, and its entry is the one that the pass
-- adds; a read that isn't refused is the latest then
pub record Called (old new : Sitting) (e : Event) (r : Reply) : Type 0 where
  pub head : Head
  pub log : List Entry
  pub turn : TurnOf old.pass head log
  pub step : IsStep (state head log) (entry_of (state head log) old.pass.number e r)
  pub pass : new.pass ≡ added old.pass log (entry_of (state head log) old.pass.number e r)
  pub read : new.read ≡ latest old.read (shown_by (state head log) e r)

-- a call that the desk didn't answer adds nothing, and the latest read stays
abbrev pub Uncalled : Sitting → Sitting → Event → DeskError → Type 0
Uncalled old new e error = NoAnswer old.pass new.pass e error × (new.read ≡ old.read)

-- a wait that was tried in one turn: it goes on, or is answered, or isn't
abbrev pub WaitedIn : Sitting → Sitting → Option (Result Reply DeskError) → Type 0
WaitedIn old new None = Looked old.pass new.pass × (new.read ≡ old.read)
WaitedIn old new (Some (Ok r)) = Called old new event.Wait r
WaitedIn old new (Some (Err error)) = Uncalled old new event.Wait error

-- the same on the desk
abbrev pub WaitMade : Story → Story → ℕ → Option (Result Reply DeskError) → Type 0
WaitMade old new actor None = new ≡ old
WaitMade old new actor (Some (Ok r)) = Did old new actor event.Wait r
WaitMade old new actor (Some (Err error)) = Unmade old new actor event.Wait error
