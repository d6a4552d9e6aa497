-- That a journal's text tells enough of an entry. Use `BareIsStep` for entries without the bytes of blocks.
use Rattle.std.specs.Prelude.{◌≡◌}
use Rattle.rvd_journal.specs.declared.entries.Entry.{Entry}
use Rattle.rvd_machine.specs.State.{State}
use Rattle.rvd_machine.specs.Steps.{IsStep, after}
use Rattle.rvd_line_reading.specs.Lines.{bare_entry}

-- an entry that is a step is one without the bytes of blocks too, and leads to the same state
abbrev pub BareIsStep : Type 0
BareIsStep = (s : State) (e : Entry) → (IsStep s e → IsStep s (bare_entry e)) × (after s (bare_entry e) ≡ after s e)
