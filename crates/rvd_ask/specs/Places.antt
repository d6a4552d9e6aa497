-- Where the rules look and what they add: the keys of facts, sums of addresses modulo 2^32, and an analyzer's new fact.
use Rattle.std.specs.Prelude.{ℕ, ◌+◌, ◌%◌, ◌^◌, ℤ, Option, Some, None}
use Rattle.std.specs.Option.{option_and_then}
use Rattle.rvd_decode.specs.Instruction.{Instruction}
use Rattle.rvd_decode.specs.Encoding.{complement}
use Rattle.rvd_decode.specs.Table.{instruction}
use Rattle.rvd_fact.specs.declared.keys.Kind.TheVariants as kind
use Rattle.rvd_fact.specs.declared.keys.Key.{Key}
use Rattle.rvd_fact.specs.declared.cells.Cell.{Cell}
use Rattle.rvd_fact.specs.declared.cells.Change.{Change}
use Rattle.rvd_fact.specs.declared.values.Source.TheVariants.{Analysis}
use Rattle.rvd_fact.specs.declared.values.Value.{Value}
use Rattle.rvd_fact.specs.declared.values.Value.TheVariants.{Code}
use Rattle.rvd_fact.specs.Program.{Program, cell_at}
use Rattle.rvd_fact.specs.Memory.{key_of, unit_key}

abbrev pub mark_key : ℕ → Key
mark_key = key_of kind.Mark

abbrev pub body_key : ℕ → Key
body_key = key_of kind.Body

-- the bookmark of an error
abbrev pub error_key : ℕ → Key
error_key a = record { at = a; kind = kind.Bookmark; sub = 4 }

-- the reference from an address in a slot
abbrev pub ref_key : ℕ → ℕ → Key
ref_key a slot = record { at = a; kind = kind.Ref; sub = slot }

-- the sum of an address and a signed number
abbrev pub moved : ℕ → ℤ → ℕ
moved a z = (a + complement z) % 2 ^ 32

-- the addresses of the instruction words after and before one
abbrev pub next_word : ℕ → ℕ
next_word a = (a + 4) % 2 ^ 32

abbrev pub word_before : ℕ → ℕ
word_before a = (a + 4294967292) % 2 ^ 32

-- the instruction of a value, of a cell, and at an address
abbrev pub value_instruction : Value → Option Instruction
value_instruction (Code w) = instruction w
value_instruction v = None

abbrev pub cell_instruction : Option Cell → Option Instruction
cell_instruction o = option_and_then (λ (c : Cell). value_instruction c.value) o

abbrev pub instruction_at : Program → ℕ → Option Instruction
instruction_at S a = cell_instruction (cell_at S (unit_key a))

-- an analyzer's new fact at a key without a cell
abbrev pub addition : Key → Value → Change
addition k v = record { key = k; before = None; after = Some (record { value = v; source = Analysis }) }
