-- A small program for tests: a text in a block, and a reference to it.
use Rattle.std.specs.Prelude.{ℕ, List, [], ◌∷◌, codes, ◌++◌, true, false, Some}
use Rattle.rvd_fact.specs.declared.cells.Cell.{Cell}
use Rattle.rvd_fact.specs.declared.values.RefClass.TheVariants.{Datum}
use Rattle.rvd_fact.specs.declared.values.Source.TheVariants.{Analysis, Imported}
use Rattle.rvd_fact.specs.declared.values.Value.TheVariants.{Block, Ref}
use Rattle.rvd_fact.specs.Program.{Program}
use Rattle.rvd_fact.specs.Memory.{block_key}
use Rattle.rvd_ask.specs.Places.{ref_key}

abbrev pub sample_bytes : List ℕ
sample_bytes = codes "abcdef" ++ 0 ∷ []

abbrev pub sample_reference : Cell
sample_reference = record { value = Ref 0x12000 Datum; source = Analysis }

abbrev pub sample_block : Cell
sample_block = record { value = Block 7 (record { r = true; w = false; x = false }) (Some sample_bytes); source = Imported }

abbrev pub sample : Program
sample = (ref_key 0x10000 1, sample_reference) ∷ (block_key 0x12000, sample_block) ∷ []
