-- What the one call for all asks of an event. Use `called_event` and `called_step`.
use Rattle.std.proofs.Common.{◌≡◌, true, refl}
use Rattle.std.proofs.lemmas.Bool.{false≢true}
use Rattle.rvd_event.specs.declared.events.Event.{Event}
use Rattle.rvd_event.specs.declared.events.Event.TheVariants as event
use Rattle.rvd_journal.specs.Entries.{is_event}
use Rattle.rvd_machine.specs.State.{State}
use Rattle.rvd_engine.specs.Performed.{is_session_step}
use Rattle.rvd_desk.specs.Calls.{is_called}

pub called_event : (e : Event) → is_called e ≡ true → is_event e ≡ true
called_event (event.Begin text) is = is
called_event (event.Edit edit) is = is
called_event (event.End keep) is = refl
called_event event.Undo is = refl
called_event event.Redo is = refl
called_event event.Full is = refl
called_event event.Cancel is = refl
called_event (event.Enable z on) is = refl
called_event event.Read is = refl
called_event event.Wait is = absurd (false≢true is)
called_event event.Close is = refl
called_event (event.Take n) is = absurd (false≢true is)
called_event (event.Offer ticket) is = absurd (false≢true is)

pub called_step : (s : State) (e : Event) → is_called e ≡ true → is_session_step s e ≡ true
called_step s (event.Begin text) is = refl
called_step s (event.Edit edit) is = refl
called_step s (event.End keep) is = refl
called_step s event.Undo is = refl
called_step s event.Redo is = refl
called_step s event.Full is = refl
called_step s event.Cancel is = refl
called_step s (event.Enable z on) is = refl
called_step s event.Read is = refl
called_step s event.Wait is = absurd (false≢true is)
called_step s event.Close is = refl
called_step s (event.Take n) is = absurd (false≢true is)
called_step s (event.Offer ticket) is = absurd (false≢true is)
