-- An event at the front of a text: `event_of`, and what it takes for the parts of one to be in the ranges of their types:
-- `FitsEvent`.
use Rattle.std.specs.Prelude.{ℕ, ◌^◌, ◌<◌, Bool, true, false, List, [], ◌∷◌, Some, codes}
use Rattle.rvd_event.specs.declared.events.Event.{Event}
use Rattle.rvd_event.specs.declared.events.Event.TheVariants.{Begin, Edit, End, Undo, Redo, Full, Cancel, Enable, Read, Wait, Close, Take, Offer}
use Rattle.rvd_reading.specs.Steps.{◌>>=◌, Step}
use Rattle.rvd_reading.specs.Fixed.{analyzers, choose, fixed, just}
use Rattle.rvd_reading.specs.Quotes.{quoted_of}
use Rattle.rvd_journal_reading.specs.Refusals.{counted}
use Rattle.rvd_line_reading.specs.Edits.{FitsEdit, FitsText, edit_of}

abbrev pub begin_of : List ℕ → Step Event
begin_of bytes = quoted_of bytes >>= (λ t. Some (Begin t.0, t.1))

abbrev pub enable_of : Bool → List ℕ → Step Event
enable_of on bytes = fixed analyzers bytes >>= (λ a. Some (Enable a.0 on, a.1))

abbrev pub edit_event_of : List ℕ → Step Event
edit_event_of bytes = edit_of bytes >>= (λ e. Some (Edit e.0, e.1))

abbrev pub events : List (List ℕ × (List ℕ → Step Event))
events =
    (codes "begin ", begin_of)
    ∷ (codes "commit", just (End true))
    ∷ (codes "abort", just (End false))
    ∷ (codes "undo", just Undo)
    ∷ (codes "redo", just Redo)
    ∷ (codes "full", just Full)
    ∷ (codes "cancel", just Cancel)
    ∷ (codes "enable ", enable_of true)
    ∷ (codes "disable ", enable_of false)
    ∷ (codes "read", just Read)
    ∷ (codes "wait", just Wait)
    ∷ (codes "close", just Close)
    ∷ (codes "take ", counted Take 4294967295)
    ∷ (codes "offer ", counted Offer 18446744073709551615)
    ∷ []

unfoldable pub event_of : List ℕ → Step Event
event_of bytes = choose events edit_event_of bytes

-- the parts of an event are in their ranges
abbrev pub FitsEvent : Event → Type 0
FitsEvent (Begin text) = FitsText text
FitsEvent (Edit edit) = FitsEdit edit
FitsEvent (Take items) = items < 2 ^ 32
FitsEvent (Offer ticket) = ticket < 2 ^ 64
FitsEvent e = Unit {0}
