-- The ranges of an event's parts: those that the types of a call keep. Use `is_event` as the premise of whatever is
-- said of every event.
use Rattle.std.specs.Prelude.{ℕ, Bool, true, nat_lt}
use Rattle.rvd_fact.specs.Valid.{is_text}
use Rattle.rvd_event.specs.Edits.{is_edit}
use Rattle.rvd_event.specs.declared.events.Event.{Event}
use Rattle.rvd_event.specs.declared.events.Event.TheVariants.{Begin, Edit, Take, Offer}

-- whether a number is one of 32 bits, and whether it is one of 64
abbrev pub is_word : ℕ → Bool
is_word n = nat_lt n 4294967296

abbrev pub is_long : ℕ → Bool
is_long n = nat_lt n 18446744073709551616

-- whether an event's parts are in their ranges
abbrev pub is_event : Event → Bool
is_event (Begin text) = is_text text
is_event (Edit edit) = is_edit edit
is_event (Take items) = is_word items
is_event (Offer ticket) = is_long ticket
is_event e = true
