-- A file of four instructions as a program, and what its analysis adds step by step: the worked example of the rules.
use Rattle.std.proofs.Common.{ℕ, Some, List, [], ◌∷◌, ◌++◌, true, false}
use Rattle.rvd_fact.specs.declared.cells.Cell.{Cell}
use Rattle.rvd_fact.specs.declared.cells.Change.{Change}
use Rattle.rvd_fact.specs.declared.values.RefClass.TheVariants.{Call, Jump}
use Rattle.rvd_fact.specs.declared.values.Source.TheVariants.{Imported}
use Rattle.rvd_fact.specs.declared.values.Value.{Value}
use Rattle.rvd_fact.specs.declared.values.Value.TheVariants.{Block, Mark, Func, Body, Code, Ref}
use Rattle.rvd_fact.specs.Program.{Program, applied_all}
use Rattle.rvd_fact.specs.Memory.{block_key, func_key, unit_key}
use Rattle.rvd_ask.specs.Places.{addition, body_key, mark_key, ref_key}

-- addi a0, zero, 1; jal ra, 00010060; and the last word, jalr zero, 0(ra), with another word between
abbrev pub file_bytes : List ℕ → List ℕ
file_bytes third = 0x13 ∷ 0x05 ∷ 0x10 ∷ 0 ∷ 0xef ∷ 0 ∷ 0x80 ∷ 0 ∷ third ++ 0x67 ∷ 0x80 ∷ 0 ∷ 0 ∷ []

abbrev pub imported_cell : Value → Cell
imported_cell v = record { value = v; source = Imported }

abbrev pub code_block : List ℕ → Cell
code_block bytes = imported_cell (Block 16 (record { r = true; w = false; x = true }) (Some bytes))

-- the imported program of a file whose third word has these bytes
abbrev pub imported_with : List ℕ → Program
imported_with third = (block_key 0x10054, code_block (file_bytes third)) ∷ (mark_key 0x10054, imported_cell Mark) ∷ []

-- jal zero, 0001005c
abbrev pub imported : Program
imported = imported_with (0x6f ∷ 0 ∷ 0 ∷ 0 ∷ [])

abbrev pub code : ℕ → ℕ → Change
code a w = addition (unit_key a) (Code w)

-- what flow at the entry adds
abbrev pub first_units : List Change
first_units = code 0x10054 0x00100513 ∷ code 0x10058 0x008000ef ∷ code 0x1005c 0x0000006f ∷ []

abbrev pub with_units : Program
with_units = applied_all imported first_units

-- what refs adds to it
abbrev pub call_ref : Change
call_ref = addition (ref_key 0x10058 0) (Ref 0x10060 Call)

abbrev pub jump_ref : Change
jump_ref = addition (ref_key 0x1005c 0) (Ref 0x1005c Jump)

abbrev pub with_refs : Program
with_refs = applied_all with_units (call_ref ∷ jump_ref ∷ [])

-- flow then finds the called instruction, funcs its function, and body its body
abbrev pub called_unit : Change
called_unit = code 0x10060 0x00008067

abbrev pub with_call : Program
with_call = applied_all with_refs (called_unit ∷ [])

abbrev pub called_func : Change
called_func = addition (func_key 0x10060) Func

abbrev pub with_func : Program
with_func = applied_all with_call (called_func ∷ [])

abbrev pub called_body : Change
called_body = addition (body_key 0x10060) (Body ((0x10060, 0x10063) ∷ []))

abbrev pub analyzed : Program
analyzed = applied_all with_func (called_body ∷ [])
