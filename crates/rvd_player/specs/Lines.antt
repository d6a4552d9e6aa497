-- What the lines of an event file add to a journal. Use `AreOf` for the entries of lines, `PlaysWhat` for a desk that plays
-- one, and `LineFails` where an error comes.
use Rattle.std.specs.Prelude.{◌≡◌, ℕ, ◌+◌, ◌<◌, Bool, true, false, ◌||◌, List, [], ◌∷◌, ◌++◌, length, Some, Result, Ok, Err, ◌⊎◌}
use Rattle.rvd_event.specs.declared.events.Event.{Event}
use Rattle.rvd_event.specs.declared.events.Event.TheVariants as event
use Rattle.rvd_event.specs.declared.replies.Reply.{Reply}
use Rattle.rvd_journal.specs.declared.entries.Entry.{Entry}
use Rattle.rvd_script.specs.declared.script_lines.EventLine.{EventLine}
use Rattle.rvd_script.specs.declared.script_lines.What1.{What1}
use Rattle.rvd_script.specs.declared.script_lines.What1.TheVariants.{Call, Ask, Settle}
use Rattle.rvd_script.specs.Legal.{is_session_event, is_worker_event}
use Rattle.rvd_machine.specs.Replies.{is_finished, is_idle}
use Rattle.rvd_machine.specs.State.{State}
use Rattle.rvd_machine.specs.Steps.{kept_rooms, max_entries, state_from}
use Rattle.rvd_desk.specs.Calls.{Did, has_step}
use Rattle.rvd_desk.specs.Story.{Story, state_of}
use Rattle.rvd_desk.specs.declared.answers.DeskError.{DeskError}
use Rattle.rvd_desk.specs.declared.answers.DeskError.TheVariants.{Refused, JournalFull, Stopped, OutOfMemory}
use Rattle.rvd_machine.specs.Proper.{AreProper, IsProperTo}
use Rattle.rvd_settle.specs.Settling.{ArePairs, IsTake}
use Rattle.rvd_desk.specs.Shown.{shown_by}
use Rattle.rvd_player.specs.Seen.{Seen, seen_after, seen_with}

-- whether an event is a session's that is always answered, by a reply that shows no program: any but a read and a wait
abbrev pub is_answered : Event → Bool
is_answered event.Read = false
is_answered event.Wait = false
is_answered (event.Take n) = false
is_answered (event.Offer ticket) = false
is_answered e = true

-- whether an event's parts are such as a line may have
abbrev pub is_callable : Event → Bool
is_callable e = is_session_event e || is_worker_event e

-- the entries of an event in a state: one, or none where the event has no step, which is a take that gives no job or a wait
-- that goes on
abbrev pub AreOfCall : State → ℕ → Event → List Entry → Type 0
AreOfCall s actor e [] = has_step s e ≡ false
AreOfCall s actor e (x ∷ []) = (x.actor ≡ actor) × (x.event ≡ e)
AreOfCall s actor e (x ∷ y ∷ entries) = ⊥

-- those of a line: a query has none, and a settle stands for pairs of a take and the offer of its ticket, until a take would
-- give no job
abbrev pub AreOfWhat : State → ℕ → What1 → List Entry → Type 0
AreOfWhat s actor (Call e) entries = AreOfCall s actor e entries
AreOfWhat s actor (Ask query) entries = entries ≡ []
AreOfWhat s actor (Settle n) entries =
    ArePairs s actor n entries × (let t = state_from s entries in (is_finished t || is_idle t) ≡ true)

-- those of lines, one list for each line
abbrev pub AreOf : State → List EventLine → List (List Entry) → Type 0
AreOf s [] [] = Unit {0}
AreOf s [] (part ∷ parts) = ⊥
AreOf s (l ∷ lines) [] = ⊥
AreOf s (l ∷ lines) (part ∷ parts) = AreOfWhat s l.actor l.what part × AreOf (state_from s part) lines parts

-- the first entries of a line: none, or pairs, or pairs and a take
abbrev pub AreBegun : State → ℕ → What1 → List Entry → Type 0
AreBegun s actor (Call e) entries = entries ≡ []
AreBegun s actor (Ask query) entries = entries ≡ []
AreBegun s actor (Settle n) entries =
    ArePairs s actor n entries
    ⊎ ((pairs : List Entry) × (last : Entry) × (entries ≡ pairs ++ last ∷ []) × ArePairs s actor n pairs × IsTake actor n last)

-- a desk makes the call of an event, or it is left out
abbrev pub PlaysCall : Story → ℕ → Event → Story → Type 0
PlaysCall old actor e new =
    ((r : Reply) × Did old new actor e r × IsProperTo (state_of old) e r) ⊎ ((new ≡ old) × (has_step (state_of old) e ≡ false))

-- whether an event is a read
abbrev pub IsRead : Event → Type 0
IsRead e = e ≡ event.Read

-- so it is, and its caller sees what it has read
abbrev pub PlaysSeeing : Story → Seen → ℕ → Event → Story → Seen → Type 0
PlaysSeeing old seen actor e new sees =
    ((r : Reply) × Did old new actor e r × IsProperTo (state_of old) e r × (sees ≡ seen_with seen actor (shown_by (state_of old) e r)))
    ⊎ ((new ≡ old) × (has_step (state_of old) e ≡ false) × (sees ≡ seen))

-- a desk plays a line: its journal gains the line's entries, and each session sees what it has read
pub record PlaysWhat (old : Story) (seen : Seen) (actor : ℕ) (what : What1) (new : Story) (sees : Seen) : Type 0 where
  pub entries : List Entry
  pub own : AreOfWhat (state_of old) actor what entries
  pub proper : AreProper (state_of old) entries
  pub grown : new ≡ record old { journal = old.journal ++ entries }
  pub shown : sees ≡ seen_after (state_of old) seen entries

-- a story has no room for a begin
abbrev pub HasNoRoom : Story → Type 0
HasNoRoom d = max_entries < length d.journal + kept_rooms (state_of d) + 2

-- a desk's journal is full while a line is played
pub record IsFullAt (old : Story) (actor : ℕ) (what : What1) (new : Story) : Type 0 where
  pub entries : List Entry
  pub begun : AreBegun (state_of old) actor what entries
  pub proper : AreProper (state_of old) entries
  pub grown : new ≡ record old { journal = old.journal ++ entries }
  pub full : HasNoRoom new

-- what a call that isn't made tells of a desk that isn't stopped
abbrev pub CallFails : Story → Story → ℕ → Event → DeskError → Type 0
CallFails old new actor e (Refused refusal) = ⊥
CallFails old new actor e (JournalFull count) = (new ≡ old) × (count ≡ length old.journal) × (max_entries < (state_of old).count + kept_rooms (state_of old) + 2)
CallFails old new actor e (Stopped halt) = (new ≡ old) × (old.halt ≡ Some halt)
CallFails old new actor e OutOfMemory = Unit {0}

-- what a line that isn't played to its end tells
abbrev pub LineFails : Story → EventLine → Story → DeskError → Type 0
LineFails old l new (Refused refusal) = ⊥
LineFails old l new (JournalFull count) = (count ≡ length new.journal) × IsFullAt old l.actor l.what new
LineFails old l new (Stopped halt) = ⊥
LineFails old l new OutOfMemory = Unit {0}

-- an error but a refusal stands
abbrev pub IsUnlessRefused : DeskError → Result (Unit {0}) DeskError → Type 0
IsUnlessRefused (Refused refusal) r = r ≡ Ok tt
IsUnlessRefused error r = r ≡ Err error
