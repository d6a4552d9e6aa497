-- A key at the front of a text: its kind, its address and its number, with a space between two of them.
use Rattle.std.specs.Prelude.{ℕ, List, Some, codes}
use Rattle.rvd_fact.specs.declared.keys.Key.{Key}
use Rattle.rvd_reading.specs.Steps.{◌>>=◌, Step, behind}
use Rattle.rvd_reading.specs.Fixed.{fixed, kinds}
use Rattle.rvd_reading.specs.Numbers.{hex8_of, number_of}

unfoldable pub key_of : List ℕ → Step Key
key_of bytes = do
  kind ← fixed kinds bytes
  gap ← behind (codes " ") kind.1
  at ← hex8_of gap.1
  second ← behind (codes " ") at.1
  sub ← number_of 255 second.1
  Some (record { at = at.0; kind = kind.0; sub = sub.0 }, sub.1)
