-- How an ask is written, and an answer to it. Use `ask_text` and `answer_text`.
use Rattle.std.specs.Prelude.{ℕ, Bool, true, false, List, [], ◌∷◌, ◌++◌, flat_map, Option, None, Some, codes}
use Rattle.std.specs.Fmt.{decimal}
use Rattle.rvd_text.specs.Hex.{hex8}
use Rattle.rvd_fact.specs.declared.keys.Key.{Key}
use Rattle.rvd_fact.specs.declared.cells.Cell.{Cell}
use Rattle.rvd_fact.specs.declared.values.RefClass.{RefClass}
use Rattle.rvd_ask.specs.declared.asks.Ask.{Ask}
use Rattle.rvd_ask.specs.declared.asks.Ask.TheVariants as ask
use Rattle.rvd_ask.specs.declared.answers.Answer.{Answer}
use Rattle.rvd_ask.specs.declared.answers.Answer.TheVariants as answer
use Rattle.rvd_notation.specs.Words.{class_word, hex2, key_text}
use Rattle.rvd_notation.specs.Values.{value_text}

unfoldable pub ask_text : Ask → List ℕ
ask_text (ask.Cell key) = codes "cell " ++ key_text key
ask_text (ask.Cover at) = codes "cover " ++ hex8 at
ask_text (ask.Block at) = codes "block " ++ hex8 at
ask_text (ask.Bytes at len) = codes "bytes " ++ hex8 at ++ codes " " ++ decimal len
ask_text (ask.To at class) = codes "to " ++ hex8 at ++ codes " " ++ class_word class
ask_text (ask.From at) = codes "from " ++ hex8 at

-- the cell at a key between brackets, where there is one
abbrev pub cell_answer : Key → Option Cell → List ℕ
cell_answer key None = codes "none"
cell_answer key (Some cell) = codes "[" ++ value_text key cell ++ codes "]"

-- an address, where there is one
abbrev pub address_answer : Option ℕ → List ℕ
address_answer None = codes "none"
address_answer (Some at) = hex8 at

-- two digits for each byte, where there are bytes
abbrev pub bytes_answer : Option (List ℕ) → List ℕ
bytes_answer None = codes "none"
bytes_answer (Some bytes) = flat_map hex2 bytes

abbrev pub truth_word : Bool → List ℕ
truth_word true = codes "yes"
truth_word false = codes "no"

-- a reference from an address: its slot, its class and its target
abbrev pub reference_text : ℕ × RefClass × ℕ → List ℕ
reference_text r = decimal r.0 ++ codes ":" ++ class_word r.1 ++ codes ":" ++ hex8 r.2

-- references, each with a comma before it
abbrev pub more_references : List (ℕ × RefClass × ℕ) → List ℕ
more_references rs = flat_map (λ r. codes "," ++ reference_text r) rs

-- references joined by commas, where there are any
abbrev pub references_answer : List (ℕ × RefClass × ℕ) → List ℕ
references_answer [] = codes "none"
references_answer (r ∷ rs) = reference_text r ++ more_references rs

-- an answer to an ask; one that isn't of the ask's kind has no text
unfoldable pub answer_text : Ask → Answer → List ℕ
answer_text (ask.Cell key) (answer.Cell cell) = cell_answer key cell
answer_text (ask.Cover at) (answer.At start) = address_answer start
answer_text (ask.Block at) (answer.At start) = address_answer start
answer_text (ask.Bytes at len) (answer.Bytes bytes) = bytes_answer bytes
answer_text (ask.To at class) (answer.Yes truth) = truth_word truth
answer_text (ask.From at) (answer.Refs references) = references_answer references
answer_text q a = []
