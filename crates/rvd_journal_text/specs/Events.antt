-- How an event is written: an edit as in a script, and each other call by its word. Use `event_text`.
use Rattle.std.specs.Prelude.{ℕ, Bool, true, false, List, ◌++◌, codes}
use Rattle.std.specs.Fmt.{decimal}
use Rattle.rvd_text.specs.Quoted.{quoted}
use Rattle.rvd_event.specs.declared.events.Event.{Event}
use Rattle.rvd_event.specs.declared.events.Event.TheVariants.{Begin, Edit, End, Undo, Redo, Full, Cancel, Enable, Read, Wait, Close, Take, Offer}
use Rattle.rvd_notation.specs.Actors.{analyzer_word}
use Rattle.rvd_journal_text.specs.Edits.{edit_text}

-- the end of an entry
abbrev pub end_word : Bool → List ℕ
end_word true = codes "commit"
end_word false = codes "abort"

-- the switch of an analyzer, with the space behind it
abbrev pub enable_word : Bool → List ℕ
enable_word true = codes "enable "
enable_word false = codes "disable "

unfoldable pub event_text : Event → List ℕ
event_text (Begin text) = codes "begin " ++ quoted text
event_text (Edit edit) = edit_text edit
event_text (End commit) = end_word commit
event_text Undo = codes "undo"
event_text Redo = codes "redo"
event_text Full = codes "full"
event_text Cancel = codes "cancel"
event_text (Enable analyzer on) = enable_word on ++ analyzer_word analyzer
event_text Read = codes "read"
event_text Wait = codes "wait"
event_text Close = codes "close"
event_text (Take items) = codes "take " ++ decimal items
event_text (Offer ticket) = codes "offer " ++ decimal ticket
