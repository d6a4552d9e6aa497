-- Edits of a program of a block and its analysis, whose changes and refusals compute.
use Rattle.std.proofs.Common.{◌≡◌, refl, true, false, Some, None, [], ◌∷◌, Ok, Err}
use Rattle.rvd_fact.specs.declared.keys.Kind.TheVariants as kind
use Rattle.rvd_fact.specs.declared.cells.Cell.{Cell}
use Rattle.rvd_fact.specs.declared.values.Value.TheVariants as value
use Rattle.rvd_fact.specs.declared.values.Source.TheVariants.{Analysis, Imported, UserDefined}
use Rattle.rvd_fact.specs.declared.values.RefClass.TheVariants.{Jump}
use Rattle.rvd_fact.specs.declared.values.Form.TheVariants.{Byte, Word}
use Rattle.rvd_fact.specs.Program.{Program, applied_all}
use Rattle.rvd_fact.specs.Memory.{unit_key, func_key, block_key, key_of}
use Rattle.rvd_event.specs.declared.edits.Edit.TheVariants.{Func, Code, Datum, Clear}
use Rattle.rvd_event.specs.declared.edits.EditRefusal.TheVariants.{Unaligned, NoBlock, Present}
use Rattle.rvd_edit.specs.Slots.{slot_key}
use Rattle.rvd_edit.specs.Changes.{further_refs}
use Rattle.rvd_edit.specs.Edits.{edit_of, has_memory, data_edit, code_edit, entry_edit, clear_edit}

abbrev a_block : Cell
a_block = record { value = value.Block 16 (record { r = true; w = false; x = true }) (Some (0x13 ∷ 0x05 ∷ 0x10 ∷ 0 ∷ 0xef ∷ 0 ∷ 0x80 ∷ 0 ∷ 0x6f ∷ 0 ∷ 0 ∷ 0 ∷ 0x67 ∷ 0x80 ∷ 0 ∷ 0 ∷ [])); source = Imported }

abbrev a_mark : Cell
a_mark = record { value = value.Mark; source = Imported }

-- the imported program
abbrev imported : Program
imported = (block_key 0x10054, a_block) ∷ (key_of kind.Mark 0x10054, a_mark) ∷ []

abbrev the_byte : Cell
the_byte = record { value = value.Plain Byte; source = UserDefined }

data_is : edit_of imported (Datum 0x1005d Byte) ≡ Ok (record { key = unit_key 0x1005d; before = None; after = Some the_byte } ∷ [])
unfolding data_edit has_memory
data_is = refl

unaligned_is : edit_of imported (Datum 0x10056 Word) ≡ Err (Unaligned 0x10056)
unfolding data_edit
unaligned_is = refl

outside_is : edit_of imported (Code 0x20000) ≡ Err (NoBlock 0x20000)
unfolding code_edit
outside_is = refl

abbrev the_func : Cell
the_func = record { value = value.Func; source = UserDefined }

func_is : edit_of imported (Func 0x10060) ≡ Ok (record { key = func_key 0x10060; before = None; after = Some the_func } ∷ [])
unfolding entry_edit
func_is = refl

again_is : edit_of (applied_all imported (record { key = func_key 0x10060; before = None; after = Some the_func } ∷ [])) (Func 0x10060) ≡ Err (Present (func_key 0x10060))
unfolding entry_edit
again_is = refl

-- a jump to itself, whose reference goes with it
abbrev a_jump : Cell
a_jump = record { value = value.Code 0x6f; source = Analysis }

abbrev a_ref : Cell
a_ref = record { value = value.Ref 0x1005c Jump; source = Analysis }

abbrev jumping : Program
jumping = (block_key 0x10054, a_block) ∷ (unit_key 0x1005c, a_jump) ∷ (slot_key kind.Ref 0x1005c 0, a_ref) ∷ []

abbrev a_gone : Cell
a_gone = record { value = value.Gone; source = UserDefined }

clear_is : edit_of jumping (Clear 0x1005c) ≡ Ok (record { key = unit_key 0x1005c; before = Some a_jump; after = Some a_gone } ∷ record { key = slot_key kind.Ref 0x1005c 0; before = Some a_ref; after = None } ∷ [])
unfolding clear_edit further_refs
clear_is = refl
