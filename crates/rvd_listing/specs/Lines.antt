-- The lines of a listing: the address, the cell, and behind it what the cell alone doesn't tell: the name of a
-- function, the text of an instruction, the bytes of data. Use `line` for the line of an entry.
use Rattle.std.specs.Prelude.{ℕ, List, [], ◌∷◌, ◌++◌, codes, Option, Some, None, unwrap_or, if◌then◌else◌}
use Rattle.std.specs.Option.{option_map_or}
use Rattle.rvd_text.specs.Hex.{hex8}
use Rattle.rvd_text.specs.Quoted.{quoted}
use Rattle.rvd_decode.specs.Table.{instruction}
use Rattle.rvd_decode.specs.Text.{instruction_text}
use Rattle.rvd_fact.specs.declared.keys.Key.{Key}
use Rattle.rvd_fact.specs.declared.cells.Cell.{Cell}
use Rattle.rvd_fact.specs.declared.values.Form.{Form}
use Rattle.rvd_fact.specs.declared.values.Form.TheVariants.{Str}
use Rattle.rvd_fact.specs.declared.values.Value.{Value}
use Rattle.rvd_fact.specs.declared.values.Value.TheVariants.{Func, Code, Plain}
use Rattle.rvd_fact.specs.Program.{Program, cell_at, is_gone}
use Rattle.rvd_fact.specs.Memory.{bytes, form_len, unit_key}
use Rattle.rvd_notation.specs.Words.{hex2}
use Rattle.rvd_notation.specs.Values.{value_text}
use Rattle.rvd_listing.specs.Names.{shown_name}

-- the text of the instruction of a word at an address; two question marks where it is none
abbrev pub word_text : ℕ → ℕ → List ℕ
word_text a word = option_map_or (λ i. instruction_text i a) (instruction word) (codes "??")

-- bytes, the lowest first, as a number with its highest digits first
abbrev pub number_text : List ℕ → List ℕ
number_text [] = []
number_text (b ∷ bs) = number_text bs ++ hex2 b

-- data of a form: a string quoted, and else a number
abbrev pub data_text : Form → List ℕ → List ℕ
data_text (Str n) bytes = quoted bytes
data_text form bytes = number_text bytes

-- data of a form at an address; two question marks where its bytes aren't known
abbrev pub datum_text : Program → ℕ → Form → List ℕ
datum_text S a form = option_map_or (data_text form) (bytes S a (form_len form)) (codes "??")

-- what stands behind a value, with a space before it
unfoldable pub suffix : Program → ℕ → Value → List ℕ
suffix S a Func = codes " " ++ unwrap_or (shown_name S a) []
suffix S a (Code word) = codes " " ++ word_text a word
suffix S a (Plain form) = codes " " ++ datum_text S a form
suffix S a value = []

-- the line of an entry, without its line feed
abbrev pub line : Program → Key × Cell → List ℕ
line S e = hex8 e.0.at ++ codes " " ++ value_text e.0 e.1 ++ suffix S e.0.at e.1.value

-- the line of an entry that is present
abbrev pub present_line : Program → Key → Option Cell → Option (List ℕ)
present_line S k None = None
present_line S k (Some c) = if is_gone c.value then None else Some (line S (k, c))

-- the line of the present unit that begins at an address
unfoldable pub line_of_unit : Program → ℕ → Option (List ℕ)
line_of_unit S a = present_line S (unit_key a) (cell_at S (unit_key a))
