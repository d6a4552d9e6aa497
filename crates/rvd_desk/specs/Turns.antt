-- What a pass of a turn round a desk knows while it has the turn, and what one turn makes of it. Use `TurnOf` for the story that
-- it took, and `looked` and `added` for the pass behind a turn that added nothing, or one entry.
use Rattle.std.specs.Prelude.{◌≡◌, ℕ, true, false, List, [], ◌∷◌, ◌++◌, length, Some, None}
use Rattle.rvd_event.specs.declared.events.Event.{Event}
use Rattle.rvd_journal.specs.declared.entries.Entry.{Entry}
use Rattle.rvd_machine.specs.Steps.{Head, IsLegal, has_room, state}
use Rattle.rvd_turn.specs.Known.{Known}
use Rattle.rvd_turn.specs.Story.{IsPrefix, owned}
use Rattle.rvd_desk.specs.declared.answers.DeskError.{DeskError}
use Rattle.rvd_desk.specs.declared.answers.DeskError.TheVariants.{Refused, JournalFull, Stopped, OutOfMemory}
use Rattle.rvd_desk.specs.declared.answers.Halt.{Halt}
use Rattle.rvd_desk.specs.Story.{MayStop, Story, state_of}

-- a pass of a turn round a desk, as contracts see it
abbrev pub Passing : Type 0
Passing = Known Head Entry

-- the entries of an actor
abbrev pub by : ℕ → List Entry → List Entry
by actor log = owned (λ e. e.actor) actor log

-- the story of a head and entries
abbrev pub story_of : Head → List Entry → Story
story_of h log = record { head = h; journal = log; halt = None }

-- the pass took the story `log`: it is legal, begins with all that the pass had seen, and has of the pass's number just its own entries
pub record TurnOf (p : Passing) (head : Head) (log : List Entry) : Type 0 where
  pub about : p.head ≡ Some head
  pub begins : IsPrefix p.seen log
  pub mine : by p.number log ≡ p.own
  pub legal : IsLegal head log

-- the pass, where nothing was added, and where one entry was
abbrev pub looked : Passing → List Entry → Passing
looked p log = record p { seen = log }

abbrev pub added : Passing → List Entry → Entry → Passing
added p log x = record p { own = p.own ++ x ∷ []; seen = log ++ x ∷ [] }

-- a turn in which nothing was added
pub record Looked (old new : Passing) : Type 0 where
  pub head : Head
  pub log : List Entry
  pub turn : TurnOf old head log
  pub pass : new ≡ looked old log

-- a turn in which the desk didn't answer an event: the story then has no room for it, or the desk may be stopped for this
-- cause, or there was no memory, while the story has room
abbrev pub NoAnswer : Passing → Passing → Event → DeskError → Type 0
NoAnswer old new e (Refused refusal) = ⊥
NoAnswer old new e (JournalFull n) = (l : Looked old new) × (n ≡ length l.log) × (has_room (state l.head l.log) old.number e ≡ false)
NoAnswer old new e (Stopped halt) = (l : Looked old new) × MayStop (story_of l.head l.log) halt
NoAnswer old new e OutOfMemory = (l : Looked old new) × (has_room (state l.head l.log) old.number e ≡ true)

-- a desk tells the story that it told
abbrev pub SameStory : Story → Story → Type 0
SameStory old new = (new.head ≡ old.head) × (new.journal ≡ old.journal)

-- the desk doesn't answer, and is stopped from then on
abbrev pub Unmade : Story → Story → ℕ → Event → DeskError → Type 0
Unmade old new actor e (Refused refusal) = ⊥
Unmade old new actor e (JournalFull n) = SameStory old new × (n ≡ length old.journal) × (has_room (state_of old) actor e ≡ false)
Unmade old new actor e (Stopped halt) = SameStory old new × MayStop old halt
Unmade old new actor e OutOfMemory = SameStory old new × (has_room (state_of old) actor e ≡ true)
