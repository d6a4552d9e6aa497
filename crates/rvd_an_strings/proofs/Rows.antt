-- The rule of strings on small programs, by computation: how long a text may be, where it ends, and what is in its way.
use Rattle.std.proofs.Common.{◌≡◌, ℕ, refl, Some, List, [], ◌∷◌, ◌++◌, length, true, false}
use Rattle.std.specs.Prelude.{replicate}
use Rattle.rvd_fact.specs.declared.keys.Key.{Key}
use Rattle.rvd_fact.specs.declared.cells.Cell.{Cell}
use Rattle.rvd_fact.specs.declared.values.Form.TheVariants.{Byte, Str}
use Rattle.rvd_fact.specs.declared.values.RefClass.{RefClass}
use Rattle.rvd_fact.specs.declared.values.RefClass.TheVariants.{Datum, Read, Write}
use Rattle.rvd_fact.specs.declared.values.Source.TheVariants.{Analysis, Imported, UserDefined}
use Rattle.rvd_fact.specs.declared.values.Value.TheVariants.{Block, Gone, Plain, Ref}
use Rattle.rvd_fact.specs.Program.{Program}
use Rattle.rvd_fact.specs.Memory.{block_key, unit_key}
use Rattle.rvd_ask.specs.declared.asks.Analyzer.TheVariants.{Strings}
use Rattle.rvd_ask.specs.declared.asks.Ask.TheVariants as ask
use Rattle.rvd_ask.specs.Places.{addition, ref_key}
use Rattle.rvd_ask.specs.Strings.{strings_asks, strings_rule}
use Rattle.rvd_ask.specs.Rules.{asks, rule}
use Rattle.rvd_ask.specs.Wake.{item}

abbrev refers_as : RefClass → Key × Cell
refers_as class = (ref_key 0x10000 1, record { value = Ref 0x12000 class; source = Analysis })

abbrev data_at : ℕ → List ℕ → Key × Cell
data_at start bytes = (block_key start, record { value = Block (length bytes) (record { r = true; w = false; x = false }) (Some bytes); source = Imported })

-- a computed address of these bytes, and what else is there
abbrev bytes_with : List ℕ → Program → Program
bytes_with bytes others = refers_as Datum ∷ data_at 0x12000 bytes ∷ others

abbrev text : ℕ → List ℕ
text n = replicate n 97

-- ---- the shortest and the longest
five_bytes : rule (bytes_with (text 5 ++ 0 ∷ []) []) (item Strings 0x12000) ≡ addition (unit_key 0x12000) (Plain (Str 6)) ∷ []
unfolding rule strings_rule
five_bytes = refl

four_bytes : rule (bytes_with (text 4 ++ 0 ∷ 0 ∷ []) []) (item Strings 0x12000) ≡ []
unfolding rule strings_rule
four_bytes = refl

most_bytes : rule (bytes_with (text 255 ++ 0 ∷ []) []) (item Strings 0x12000) ≡ addition (unit_key 0x12000) (Plain (Str 256)) ∷ []
unfolding rule strings_rule
most_bytes = refl

too_many_bytes : rule (bytes_with (text 256 ++ 0 ∷ []) []) (item Strings 0x12000) ≡ []
unfolding rule strings_rule
too_many_bytes = refl

-- ---- where a text ends
no_zero : rule (bytes_with (text 8) []) (item Strings 0x12000) ≡ []
unfolding rule strings_rule
no_zero = refl

other_byte : rule (bytes_with (text 5 ++ 127 ∷ 0 ∷ []) []) (item Strings 0x12000) ≡ []
unfolding rule strings_rule
other_byte = refl

blanks : rule (bytes_with (9 ∷ 10 ∷ 13 ∷ 32 ∷ 126 ∷ 0 ∷ []) []) (item Strings 0x12000) ≡ addition (unit_key 0x12000) (Plain (Str 6)) ∷ []
unfolding rule strings_rule
blanks = refl

-- the zero lies behind the seam of two blocks
zero_over_a_seam : rule (bytes_with (text 8) (data_at 0x12008 (0 ∷ []) ∷ [])) (item Strings 0x12000) ≡ []
unfolding rule strings_rule
zero_over_a_seam = refl

-- no byte is asked for where a block has no room for a string
asks_without_room : asks (bytes_with (text 5) (data_at 0x12005 (0 ∷ []) ∷ [])) (item Strings 0x12000) ≡ ask.To 0x12000 Datum ∷ ask.Block 0x12000 ∷ ask.Cell (block_key 0x12000) ∷ []
unfolding asks strings_asks
asks_without_room = refl

-- ---- what refers to it
reads_it : rule (refers_as Read ∷ data_at 0x12000 (text 5 ++ 0 ∷ []) ∷ []) (item Strings 0x12000) ≡ addition (unit_key 0x12000) (Plain (Str 6)) ∷ []
unfolding rule strings_rule
reads_it = refl

writes_it : rule (refers_as Write ∷ data_at 0x12000 (text 5 ++ 0 ∷ []) ∷ []) (item Strings 0x12000) ≡ []
unfolding rule strings_rule
writes_it = refl

asks_of_a_write : asks (refers_as Write ∷ data_at 0x12000 (text 5 ++ 0 ∷ []) ∷ []) (item Strings 0x12000) ≡ ask.To 0x12000 Datum ∷ ask.To 0x12000 Read ∷ []
unfolding asks strings_asks
asks_of_a_write = refl

-- ---- what is in its way
a_unit_on_its_zero : rule (bytes_with (text 5 ++ 0 ∷ []) ((unit_key 0x12005, record { value = Plain Byte; source = UserDefined }) ∷ [])) (item Strings 0x12000) ≡ []
unfolding rule strings_rule
a_unit_on_its_zero = refl

a_unit_behind_it : rule (bytes_with (text 5 ++ 0 ∷ 0 ∷ []) ((unit_key 0x12006, record { value = Plain Byte; source = UserDefined }) ∷ [])) (item Strings 0x12000) ≡ addition (unit_key 0x12000) (Plain (Str 6)) ∷ []
unfolding rule strings_rule
a_unit_behind_it = refl

a_unit_that_went : rule (bytes_with (text 5 ++ 0 ∷ []) ((unit_key 0x12000, record { value = Gone; source = UserDefined }) ∷ [])) (item Strings 0x12000) ≡ []
unfolding rule strings_rule
a_unit_that_went = refl

asks_of_a_string : asks (bytes_with (text 5 ++ 0 ∷ []) []) (item Strings 0x12000)
    ≡ ask.To 0x12000 Datum ∷ ask.Block 0x12000 ∷ ask.Cell (block_key 0x12000)
    ∷ ask.Bytes 0x12000 1 ∷ ask.Bytes 0x12001 1 ∷ ask.Bytes 0x12002 1 ∷ ask.Bytes 0x12003 1 ∷ ask.Bytes 0x12004 1 ∷ ask.Bytes 0x12005 1
    ∷ ask.Cover 0x12000 ∷ ask.Cover 0x12001 ∷ ask.Cover 0x12002 ∷ ask.Cover 0x12003 ∷ ask.Cover 0x12004 ∷ ask.Cover 0x12005
    ∷ ask.Cell (unit_key 0x12000)
    ∷ []
unfolding asks strings_asks
asks_of_a_string = refl
