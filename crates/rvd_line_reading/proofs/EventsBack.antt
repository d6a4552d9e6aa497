-- Events are read back, behind which a space and a sign stand. Use `event_law`.
use Rattle.std.proofs.Common.{◌≡◌, ℕ, true, false, List, ◌++◌, Some, refl, ap, ◌∙◌, arith}
use Rattle.rvd_event.specs.declared.edits.Edit.{Edit as AnEdit}
use Rattle.rvd_event.specs.declared.edits.Edit.TheVariants.{Block, Mark, Func, Body, Label, Ref, Comment, Bookmark, Code, Datum, Clear, Remove, Release}
use Rattle.rvd_event.specs.declared.events.Event.{Event}
use Rattle.rvd_event.specs.declared.events.Event.TheVariants.{Begin, Edit, End, Undo, Redo, Full, Cancel, Enable, Read, Wait, Close, Take, Offer}
use Rattle.rvd_reading.specs.Steps.{◌>>=◌, Step}
use Rattle.rvd_reading.proofs.WordsBack.{analyzer-back}
use Rattle.rvd_reading.proofs.NumbersBack.{number-back}
use Rattle.rvd_reading.proofs.TextsBack.{text-back}
use Rattle.rvd_journal_text.specs.Edits.{edit_text}
use Rattle.rvd_journal_text.specs.Events.{event_text}
use Rattle.rvd_line_reading.specs.Events.{FitsEvent, edit_event_of, event_of}
use Rattle.rvd_line_reading.specs.Laws.{EventLaw}
use Rattle.rvd_line_reading.proofs.EditsBack.{edit-back, sign}

-- an edit begins with no word of another event
edited : (e : AnEdit) (bytes : List ℕ) → event_of (edit_text e ++ bytes) ≡ edit_event_of (edit_text e ++ bytes)
unfolding event_of edit_text
edited (Block at len perm) bytes = refl
edited (Mark at) bytes = refl
edited (Func at) bytes = refl
edited (Body at ranges) bytes = refl
edited (Label at name) bytes = refl
edited (Ref from to class) bytes = refl
edited (Comment at sub text) bytes = refl
edited (Bookmark at sub text) bytes = refl
edited (Code at) bytes = refl
edited (Datum at form) bytes = refl
edited (Clear at) bytes = refl
edited (Remove k at sub) bytes = refl
edited (Release k at sub) bytes = refl

event-back : (e : Event) (more : List ℕ) → FitsEvent e → event_of (event_text e ++ sign more) ≡ Some (e, sign more)
unfolding event_of event_text
event-back (Begin text) more fits = rw (text-back text (sign more) fits.0 fits.1) refl
event-back (Edit edit) more fits = edited edit (sign more) ∙ ap (λ (o : Step AnEdit). o >>= (λ x. let s : Step Event = Some (Edit x.0, x.1) in s)) (edit-back edit more fits)
event-back (End true) more fits = refl
event-back (End false) more fits = refl
event-back Undo more fits = refl
event-back Redo more fits = refl
event-back Full more fits = refl
event-back Cancel more fits = refl
event-back (Enable analyzer true) more fits = rw (analyzer-back analyzer (sign more)) refl
event-back (Enable analyzer false) more fits = rw (analyzer-back analyzer (sign more)) refl
event-back Read more fits = refl
event-back Wait more fits = refl
event-back Close more fits = refl
event-back (Take items) more fits = rw (number-back 4294967295 items (sign more) (omega (arith, fits)) (omega (arith, fits)) refl) refl
event-back (Offer ticket) more fits = rw (number-back 18446744073709551615 ticket (sign more) (omega (arith, fits)) fits refl) refl

pub event_law : EventLaw
event_law = record { event = event-back }
