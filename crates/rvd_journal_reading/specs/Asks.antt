-- An ask at the front of a text. Use `ask_of`.
use Rattle.std.specs.Prelude.{ℕ, ◌^◌, ◌<◌, List, [], ◌∷◌, Some, codes}
use Rattle.rvd_ask.specs.declared.asks.Ask.{Ask}
use Rattle.rvd_ask.specs.declared.asks.Ask.TheVariants as ask
use Rattle.rvd_reading.specs.Steps.{◌>>=◌, Step, behind}
use Rattle.rvd_reading.specs.Fixed.{choose, classes, fixed, nothing}
use Rattle.rvd_reading.specs.Numbers.{hex8_of, number_of}
use Rattle.rvd_reading.specs.Keys.{key_of}

-- what is made of an address
abbrev pub at_of : {A : Type 0} → (ℕ → A) → List ℕ → Step A
at_of make bytes = hex8_of bytes >>= (λ at. Some (make at.0, at.1))

abbrev pub cell_ask_of : List ℕ → Step Ask
cell_ask_of bytes = key_of bytes >>= (λ k. Some (ask.Cell k.0, k.1))

unfoldable pub bytes_ask_of : List ℕ → Step Ask
bytes_ask_of bytes = do
  at ← hex8_of bytes
  gap ← behind (codes " ") at.1
  len ← number_of 65535 gap.1
  Some (ask.Bytes at.0 len.0, len.1)

unfoldable pub to_ask_of : List ℕ → Step Ask
to_ask_of bytes = do
  at ← hex8_of bytes
  gap ← behind (codes " ") at.1
  class ← fixed classes gap.1
  Some (ask.To at.0 class.0, class.1)

abbrev pub asks : List (List ℕ × (List ℕ → Step Ask))
asks =
    (codes "cell ", cell_ask_of)
    ∷ (codes "cover ", at_of ask.Cover)
    ∷ (codes "block ", at_of ask.Block)
    ∷ (codes "bytes ", bytes_ask_of)
    ∷ (codes "to ", to_ask_of)
    ∷ (codes "from ", at_of ask.From)
    ∷ []

unfoldable pub ask_of : List ℕ → Step Ask
ask_of bytes = choose asks nothing bytes

-- the parts of an ask are in their ranges
abbrev pub FitsAsk : Ask → Type 0
FitsAsk (ask.Cell k) = (k.at < 2 ^ 32) × (k.sub < 256)
FitsAsk (ask.Cover at) = at < 2 ^ 32
FitsAsk (ask.Block at) = at < 2 ^ 32
FitsAsk (ask.Bytes at len) = (at < 2 ^ 32) × (len < 65536)
FitsAsk (ask.To at class) = at < 2 ^ 32
FitsAsk (ask.From at) = at < 2 ^ 32
