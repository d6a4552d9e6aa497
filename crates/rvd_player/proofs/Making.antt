-- What the desk's one call for all makes of a line's event. Use `called_of` for what it asks of the event, `plays_of` where it
-- answers, and `fails_of` where it doesn't.
use Rattle.std.proofs.Common.{◌≡◌, ℕ, true, false, refl, subst, inl}
use Rattle.std.proofs.lemmas.Bool.{false≢true}
use Rattle.rvd_event.specs.declared.events.Event.{Event}
use Rattle.rvd_event.specs.declared.events.Event.TheVariants as event
use Rattle.rvd_event.specs.declared.replies.Reply.{Reply}
use Rattle.rvd_script.specs.Legal.{is_session_event}
use Rattle.rvd_machine.specs.Proper.{IsProperTo}
use Rattle.rvd_machine.specs.State.{State}
use Rattle.rvd_desk.proofs.Rooms.{no_room}
use Rattle.rvd_desk.specs.Calls.{Did, Failed, is_called, is_refusal}
use Rattle.rvd_desk.specs.Story.{Story, state_of}
use Rattle.rvd_desk.specs.declared.answers.DeskError.{DeskError}
use Rattle.rvd_desk.specs.declared.answers.DeskError.TheVariants.{Refused, JournalFull, Stopped, OutOfMemory}
use Rattle.rvd_player.specs.Lines.{CallFails, PlaysCall, is_answered}

pub called_of : (e : Event) → is_session_event e ≡ true → is_answered e ≡ true → is_called e ≡ true
called_of (event.Begin text) legal answered = legal
called_of (event.Edit edit) legal answered = legal
called_of (event.End keep) legal answered = refl
called_of event.Undo legal answered = refl
called_of event.Redo legal answered = refl
called_of event.Full legal answered = refl
called_of event.Cancel legal answered = refl
called_of (event.Enable z on) legal answered = refl
called_of event.Read legal answered = absurd (false≢true answered)
called_of event.Wait legal answered = absurd (false≢true answered)
called_of event.Close legal answered = refl
called_of (event.Take n) legal answered = absurd (false≢true answered)
called_of (event.Offer ticket) legal answered = absurd (false≢true answered)

proper_of : (s : State) (e : Event) (r : Reply) → is_answered e ≡ true → IsProperTo s e r
proper_of s (event.Begin text) r answered = tt
proper_of s (event.Edit edit) r answered = tt
proper_of s (event.End keep) r answered = tt
proper_of s event.Undo r answered = tt
proper_of s event.Redo r answered = tt
proper_of s event.Full r answered = tt
proper_of s event.Cancel r answered = tt
proper_of s (event.Enable z on) r answered = tt
proper_of s event.Read r answered = absurd (false≢true answered)
proper_of s event.Wait r answered = absurd (false≢true answered)
proper_of s event.Close r answered = tt
proper_of s (event.Take n) r answered = absurd (false≢true answered)
proper_of s (event.Offer ticket) r answered = absurd (false≢true answered)

pub plays_of : (old new : Story) (a : ℕ) (e v : Event) (r : Reply) → v ≡ e → is_answered e ≡ true → Did old new a v r → PlaysCall old a e new
plays_of old new a e v r same answered did = inl (r, subst (λ (w : Event). Did old new a w r) same did, proper_of (state_of old) e r answered)

pub fails_of : (old new : Story) (a : ℕ) (e v : Event) (error : DeskError) → v ≡ e → is_refusal error ≡ false → Failed old new a v error → CallFails old new a e error
fails_of old new a e v (Refused refusal) same journaled failed = absurd (let h : true ≡ false = journaled in cc)
fails_of old new a e v (JournalFull n) same journaled failed = (failed.0, failed.2, no_room (state_of old) a v failed.4)
fails_of old new a e v (Stopped halt) same journaled failed = failed
fails_of old new a e v OutOfMemory same journaled failed = tt
