-- The rule of strings at the end of a block: a text doesn't run on into the next one.
use Rattle.std.proofs.Common.{◌≡◌, ℕ, refl, Some, List, [], ◌∷◌, true, false}
use Rattle.rvd_fact.specs.declared.keys.Key.{Key}
use Rattle.rvd_fact.specs.declared.cells.Cell.{Cell}
use Rattle.rvd_fact.specs.declared.values.Form.TheVariants.{Str}
use Rattle.rvd_fact.specs.declared.values.RefClass.TheVariants.{Datum}
use Rattle.rvd_fact.specs.declared.values.Source.TheVariants.{Analysis, Imported}
use Rattle.rvd_fact.specs.declared.values.Value.TheVariants.{Block, Plain, Ref}
use Rattle.rvd_fact.specs.Program.{Program}
use Rattle.rvd_fact.specs.Memory.{block_key, unit_key}
use Rattle.rvd_ask.specs.declared.asks.Analyzer.TheVariants.{Strings}
use Rattle.rvd_ask.specs.declared.asks.Ask.TheVariants as ask
use Rattle.rvd_ask.specs.Places.{addition, ref_key}
use Rattle.rvd_ask.specs.Strings.{strings_asks, strings_rule}
use Rattle.rvd_ask.specs.Rules.{asks, rule}
use Rattle.rvd_ask.specs.Wake.{item}

abbrev data_block : ℕ → List ℕ → Cell
data_block len bytes = record { value = Block len (record { r = true; w = false; x = false }) (Some bytes); source = Imported }

abbrev a_reference : Key × Cell
a_reference = (ref_key 0x10000 1, record { value = Ref 0x12000 Datum; source = Analysis })

-- "abcd", and behind the seam "ef" and a zero
abbrev over_a_seam : Program
over_a_seam = a_reference ∷ (block_key 0x12000, data_block 4 (97 ∷ 98 ∷ 99 ∷ 100 ∷ [])) ∷ (block_key 0x12004, data_block 3 (101 ∷ 102 ∷ 0 ∷ [])) ∷ []

no_string_over_a_seam : rule over_a_seam (item Strings 0x12000) ≡ []
unfolding strings_rule rule
no_string_over_a_seam = refl

-- "abcdef" and a zero in one block
abbrev in_one_block : Program
in_one_block = a_reference ∷ (block_key 0x12000, data_block 7 (97 ∷ 98 ∷ 99 ∷ 100 ∷ 101 ∷ 102 ∷ 0 ∷ [])) ∷ []

a_string_in_one_block : rule in_one_block (item Strings 0x12000) ≡ addition (unit_key 0x12000) (Plain (Str 7)) ∷ []
unfolding strings_rule rule
a_string_in_one_block = refl

-- four bytes of text are too few
abbrev too_short : Program
too_short = a_reference ∷ (block_key 0x12000, data_block 7 (97 ∷ 98 ∷ 99 ∷ 100 ∷ 0 ∷ 102 ∷ 0 ∷ [])) ∷ []

asks_up_to_a_zero : asks too_short (item Strings 0x12000)
    ≡ ask.To 0x12000 Datum ∷ ask.Block 0x12000 ∷ ask.Cell (block_key 0x12000)
    ∷ ask.Bytes 0x12000 1 ∷ ask.Bytes 0x12001 1 ∷ ask.Bytes 0x12002 1 ∷ ask.Bytes 0x12003 1 ∷ ask.Bytes 0x12004 1
    ∷ []
unfolding strings_asks asks
asks_up_to_a_zero = refl
