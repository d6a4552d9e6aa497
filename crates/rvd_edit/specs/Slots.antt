-- The slots for names and for references at an address. Use `first_slot` for the lowest slot that passes a test, and
-- `has_name` and `has_target` for what stands in one.
use Rattle.std.specs.Prelude.{ℕ, zero, suc, ◌+◌, Bool, false, not, List, if◌then◌else◌, Option, Some, None, is_some}
use Rattle.std.specs.Str.{bytes_eq}
use Rattle.rvd_fact.specs.declared.keys.Kind.{Kind}
use Rattle.rvd_fact.specs.declared.keys.Key.{Key}
use Rattle.rvd_fact.specs.declared.cells.Cell.{Cell}
use Rattle.rvd_fact.specs.declared.values.RefClass.{RefClass}
use Rattle.rvd_fact.specs.declared.values.Value.{Value}
use Rattle.rvd_fact.specs.declared.values.Value.TheVariants.{Symbol}
use Rattle.rvd_fact.specs.Program.{Program, cell_at}
use Rattle.rvd_fact.specs.Memory.{refers}

-- how many slots an address has, for names and for references
abbrev pub slots : ℕ
slots = 64

-- how many of the slots for references are the analyzers'; those above are the analysts'
abbrev pub analyzer_slots : ℕ
analyzer_slots = 2

abbrev pub slot_key : Kind → ℕ → ℕ → Key
slot_key k a slot = record { at = a; kind = k; sub = slot }

-- the lowest of n slots, from a slot on, that passes a test
unfoldable pub first_slot : (ℕ → Bool) → ℕ → ℕ → Option ℕ
first_slot test slot zero = None
first_slot test slot (suc n) = if test slot then Some slot else first_slot test (slot + 1) n

-- whether a value is this name
abbrev pub is_named : List ℕ → Value → Bool
is_named name (Symbol own) = bytes_eq own name
is_named name v = false

-- whether a present cell is this name, and whether it is a reference of this class to an address
abbrev pub has_name : List ℕ → Option Cell → Bool
has_name name None = false
has_name name (Some c) = is_named name c.value

abbrev pub has_target : ℕ → RefClass → Option Cell → Bool
has_target to class None = false
has_target to class (Some c) = refers to class c.value

-- the lowest slot whose cell passes a test, and the lowest slot without a cell from a slot on
abbrev pub slot_with : Program → Kind → ℕ → (Option Cell → Bool) → Option ℕ
slot_with S k a test = first_slot (λ slot. test (cell_at S (slot_key k a slot))) 0 slots

abbrev pub free_slot : Program → Kind → ℕ → ℕ → ℕ → Option ℕ
free_slot S k a low n = first_slot (λ slot. not (is_some (cell_at S (slot_key k a slot)))) low n
