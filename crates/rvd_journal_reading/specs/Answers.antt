-- An answer to an ask at the front of a text. Use `answer_of`.
use Rattle.std.specs.Prelude.{ℕ, ◌+◌, ◌*◌, ◌^◌, ◌<◌, true, false, List, [], ◌∷◌, length, Some, None, codes}
use Rattle.std.specs.List.{AllByRecursion}
use Rattle.rvd_text.specs.Quoted.{low_hex}
use Rattle.rvd_fact.specs.declared.values.RefClass.{RefClass}
use Rattle.rvd_ask.specs.declared.asks.Ask.{Ask}
use Rattle.rvd_ask.specs.declared.asks.Ask.TheVariants as ask
use Rattle.rvd_ask.specs.declared.answers.Answer.{Answer}
use Rattle.rvd_ask.specs.declared.answers.Answer.TheVariants as answer
use Rattle.rvd_reading.specs.Steps.{◌>>=◌, Step, behind}
use Rattle.rvd_reading.specs.Fixed.{choose, classes, fixed, just, nothing}
use Rattle.rvd_reading.specs.Numbers.{hex8_of, number_of}
use Rattle.rvd_reading.specs.Lists.{list_of}
use Rattle.rvd_reading.specs.Values.{FitsValue, bare, cell_of}
use Rattle.rvd_journal_reading.specs.Asks.{at_of}

-- the start of a unit or a block
abbrev pub start_of : List ℕ → Step Answer
start_of bytes = choose ((codes "none", just (answer.At None)) ∷ []) (at_of (λ at. answer.At (Some at))) bytes

abbrev pub truth_of : List ℕ → Step Answer
truth_of bytes = choose ((codes "yes", just (answer.Yes true)) ∷ (codes "no", just (answer.Yes false)) ∷ []) nothing bytes

-- a cell behind its opening bracket
unfoldable pub bracket_of : List ℕ → Step Answer
bracket_of bytes = do
  cell ← cell_of bytes
  bracket ← behind (codes "]") cell.1
  Some (answer.Cell (Some cell.0), bracket.1)

abbrev pub cell_answer_of : List ℕ → Step Answer
cell_answer_of bytes = choose ((codes "none", just (answer.Cell None)) ∷ (codes "[", bracket_of) ∷ []) nothing bytes

-- a byte in two lower-case digits
abbrev pub hex2_of : List ℕ → Step ℕ
hex2_of (h ∷ l ∷ rest) = low_hex h >>= (λ a. low_hex l >>= (λ b. Some (a * 16 + b, rest)))
hex2_of bytes = None

-- bytes, with nothing between them
unfoldable pub bytes_of : ℕ → List ℕ → Step (List ℕ)
bytes_of count bytes = list_of count [] hex2_of bytes

abbrev pub some_bytes_of : ℕ → List ℕ → Step Answer
some_bytes_of count bytes = bytes_of count bytes >>= (λ bs. Some (answer.Bytes (Some bs.0), bs.1))

abbrev pub bytes_answer_of : ℕ → List ℕ → Step Answer
bytes_answer_of count bytes = choose ((codes "none", just (answer.Bytes None)) ∷ []) (some_bytes_of count) bytes

-- a reference: its slot, its class and its target
unfoldable pub reference_of : List ℕ → Step (ℕ × RefClass × ℕ)
reference_of bytes = do
  slot ← number_of 255 bytes
  colon ← behind (codes ":") slot.1
  class ← fixed classes colon.1
  second ← behind (codes ":") class.1
  to ← hex8_of second.1
  Some ((slot.0, class.0, to.0), to.1)

unfoldable pub more_references_of : List ℕ → Step (List (ℕ × RefClass × ℕ))
more_references_of bytes = list_of (length bytes) (codes ",") reference_of bytes

abbrev pub some_references_of : List ℕ → Step (List (ℕ × RefClass × ℕ))
some_references_of bytes = reference_of bytes >>= (λ r. more_references_of r.1 >>= (λ rs. Some (r.0 ∷ rs.0, rs.1)))

abbrev pub references_of : List ℕ → Step (List (ℕ × RefClass × ℕ))
references_of bytes = choose ((codes "none", just []) ∷ []) some_references_of bytes

abbrev pub references_answer_of : List ℕ → Step Answer
references_answer_of bytes = references_of bytes >>= (λ rs. Some (answer.Refs rs.0, rs.1))

unfoldable pub answer_of : Ask → List ℕ → Step Answer
answer_of (ask.Cell k) bytes = cell_answer_of bytes
answer_of (ask.Cover at) bytes = start_of bytes
answer_of (ask.Block at) bytes = start_of bytes
answer_of (ask.Bytes at len) bytes = bytes_answer_of len bytes
answer_of (ask.To at class) bytes = truth_of bytes
answer_of (ask.From at) bytes = references_answer_of bytes

-- the parts of an answer are in their ranges
abbrev pub FitsReference : ℕ × RefClass × ℕ → Type 0
FitsReference r = (r.0 < 256) × (r.2 < 2 ^ 32)

abbrev pub FitsAnswer : Answer → Type 0
FitsAnswer (answer.Cell (Some c)) = FitsValue c.value
FitsAnswer (answer.At (Some at)) = at < 2 ^ 32
FitsAnswer (answer.Bytes (Some bytes)) = AllByRecursion (λ b. b < 256) bytes
FitsAnswer (answer.Refs references) = AllByRecursion FitsReference references
FitsAnswer a = Unit {0}

-- what the text of an answer tells of it: all but the bytes of a block
abbrev pub bare_answer : Answer → Answer
bare_answer (answer.Cell (Some c)) = answer.Cell (Some (record { source = c.source; value = bare c.value }))
bare_answer a = a
