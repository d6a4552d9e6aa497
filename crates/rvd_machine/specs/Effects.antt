-- What one entry makes of the state, told without the machine's cases. Use `RefusedCountsAlone` for refused events, and
-- `HistoryIsMoved` for the committed programs.
use Rattle.std.specs.Prelude.{◌≡◌, ◌+◌, true, false, List, [], ◌∷◌, ◌++◌, None, ◌⊎◌}
use Rattle.rvd_fact.specs.Program.{Program}
use Rattle.rvd_event.specs.declared.events.Event.{Event}
use Rattle.rvd_event.specs.declared.events.Event.TheVariants as event
use Rattle.rvd_journal.specs.declared.entries.Entry.{Entry}
use Rattle.rvd_undo.specs.History.{History, after_commit, after_redo, after_undo}
use Rattle.rvd_machine.specs.State.{State, work}
use Rattle.rvd_machine.specs.Steps.{Head, IsLegal, is_refused, state}

-- a refused event changes nothing but the number of entries, and its entry names no Settled step
pub record CountsAlone (s t : State) (e : Entry) : Type 0 where
  pub state : t ≡ record s { count = s.count + 1 }
  pub settled : e.settled ≡ None

abbrev pub RefusedCountsAlone : Type 0
RefusedCountsAlone =
    (h : Head) (J : List Entry) (e : Entry) → IsLegal h (J ++ e ∷ []) → is_refused e.reply ≡ true
    → CountsAlone (state h J) (state h (J ++ e ∷ [])) e

-- what an event that isn't refused makes of the history of committed programs: an undo and a redo move through it, the end of
-- an entry may commit the working program, an offer may commit another one, and nothing else touches it
abbrev pub MovesHistory : State → Event → History → Type 0
MovesHistory s event.Undo after = after ≡ after_undo s.history
MovesHistory s event.Redo after = after ≡ after_redo s.history
MovesHistory s (event.End keep) after = (after ≡ s.history) ⊎ (after ≡ after_commit s.history (work s))
MovesHistory s (event.Offer ticket) after = (after ≡ s.history) ⊎ ((T : Program) × (after ≡ after_commit s.history T))
MovesHistory s e after = after ≡ s.history

abbrev pub HistoryIsMoved : Type 0
HistoryIsMoved =
    (h : Head) (J : List Entry) (e : Entry) → is_refused e.reply ≡ false → MovesHistory (state h J) e.event (state h (J ++ e ∷ [])).history
