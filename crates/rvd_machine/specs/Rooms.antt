-- The rooms that a journal keeps. Use `LegalKeepsRooms`: what is kept for the ends of live entries and for open sessions is
-- there.
use Rattle.std.specs.Prelude.{◌+◌, ◌≤◌, List}
use Rattle.rvd_journal.specs.declared.entries.Entry.{Entry}
use Rattle.rvd_machine.specs.Steps.{Head, IsLegal, kept_rooms, max_entries, state}

-- after each legal journal the entries so far and the rooms that are kept are at most the most entries
abbrev pub LegalKeepsRooms : Type 0
LegalKeepsRooms = (h : Head) (J : List Entry) → IsLegal h J → (state h J).count + kept_rooms (state h J) ≤ max_entries
