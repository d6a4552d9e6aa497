-- The rules on the smallest generated image: a function that calls itself with the address of a string.
use Rattle.std.proofs.Common.{◌≡◌, ℕ, refl, List, [], ◌∷◌, ◌++◌, Some, true, false, codes}
use Rattle.rvd_decode.specs.Table.{operation}
use Rattle.rvd_fact.specs.declared.cells.Change.{Change}
use Rattle.rvd_fact.specs.declared.values.Form.TheVariants.{Str}
use Rattle.rvd_fact.specs.declared.values.RefClass.TheVariants.{Call, Datum}
use Rattle.rvd_fact.specs.declared.values.Value.TheVariants.{Block, Mark, Plain, Ref}
use Rattle.rvd_fact.specs.Program.{Program, applied_all}
use Rattle.rvd_fact.specs.Memory.{block_key, unit_key}
use Rattle.rvd_ask.specs.declared.asks.Analyzer.TheVariants.{Flow, Refs, Strings}
use Rattle.rvd_ask.specs.declared.asks.Ask.TheVariants as ask
use Rattle.rvd_ask.specs.Places.{addition, mark_key, ref_key}
use Rattle.rvd_ask.specs.Flow.{flow_rule, openable}
use Rattle.rvd_ask.specs.Refs.{refs_asks, refs_rule}
use Rattle.rvd_ask.specs.Strings.{strings_rule}
use Rattle.rvd_ask.specs.Rules.{asks, rule}
use Rattle.rvd_ask.specs.Wake.{item}
use Rattle.rvd_ask.proofs.SmallFile.{code, imported_cell}

abbrev code_bytes : List ℕ
code_bytes =
    0x13 ∷ 0x01 ∷ 0x01 ∷ 0xff ∷ 0x23 ∷ 0x26 ∷ 0x11 ∷ 0 ∷ 0x37 ∷ 0x05 ∷ 0x20 ∷ 0 ∷ 0x13 ∷ 0x05 ∷ 0x05 ∷ 0
    ∷ 0xef ∷ 0xf0 ∷ 0x1f ∷ 0xff ∷ 0x83 ∷ 0x20 ∷ 0xc1 ∷ 0 ∷ 0x13 ∷ 0x01 ∷ 0x01 ∷ 0x01 ∷ 0x67 ∷ 0x80 ∷ 0 ∷ 0 ∷ []

abbrev generated : Program
generated =
    (block_key 0x10000, imported_cell (Block 32 (record { r = true; w = false; x = true }) (Some code_bytes)))
    ∷ (mark_key 0x10000, imported_cell Mark)
    ∷ (block_key 0x200000, imported_cell (Block 16 (record { r = true; w = false; x = false }) (Some (codes "string 00000000" ++ 0 ∷ []))))
    ∷ []

abbrev units : List Change
units =
    code 0x10000 0xff010113 ∷ code 0x10004 0x00112623 ∷ code 0x10008 0x00200537 ∷ code 0x1000c 0x00050513
    ∷ code 0x10010 0xff1ff0ef ∷ code 0x10014 0x00c12083 ∷ code 0x10018 0x01010113 ∷ code 0x1001c 0x00008067 ∷ []

flow_to_the_return : rule generated (item Flow 0x10000) ≡ units
unfolding operation openable flow_rule rule
flow_to_the_return = refl

abbrev with_units : Program
with_units = applied_all generated units

-- lui a0, 0x00200 and addi a0, a0, 0 give the string's address
abbrev string_ref : Change
string_ref = addition (ref_key 0x1000c 1) (Ref 0x200000 Datum)

refs_at_the_string : rule with_units (item Refs 0x1000c) ≡ string_ref ∷ []
unfolding operation refs_rule rule
refs_at_the_string = refl

refs_asks_at_the_string : asks with_units (item Refs 0x1000c)
    ≡ ask.Cell (unit_key 0x1000c) ∷ ask.Cell (unit_key 0x10008) ∷ ask.Block 0x200000 ∷ ask.Cell (ref_key 0x1000c 1) ∷ []
unfolding operation refs_asks asks
refs_asks_at_the_string = refl

-- the call goes back to the start; a load behind a call has no upper value
refs_at_the_call : rule with_units (item Refs 0x10010) ≡ addition (ref_key 0x10010 0) (Ref 0x10000 Call) ∷ []
unfolding operation refs_rule rule
refs_at_the_call = refl

refs_at_the_load : rule with_units (item Refs 0x10014) ≡ []
unfolding operation refs_rule rule
refs_at_the_load = refl

the_string : rule (applied_all with_units (string_ref ∷ [])) (item Strings 0x200000) ≡ addition (unit_key 0x200000) (Plain (Str 16)) ∷ []
unfolding strings_rule rule
the_string = refl
