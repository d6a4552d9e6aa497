-- What a program has at an address: its blocks and their bytes, its units, and its references. Use `block`,
-- `byte_at`, `bytes` and `word` for memory, `cover` for units, and `has_ref_to` and `refs_from` for references.
use Rattle.std.specs.Prelude.{ℕ, ◌+◌, ◌-◌, Bool, true, false, ◌&&◌, nat_lt, nat_le, ◌==◌, List, length, take, drop, find, filter_map, slice_index, Option, Some, None, if◌then◌else◌}
use Rattle.std.specs.Option.{option_map, option_and_then}
use Rattle.std.specs.List.{list_any}
use Rattle.std.specs.Int.{from_le_bytes, w32}
use Rattle.rvd_fact.specs.declared.keys.Kind.{Kind}
use Rattle.rvd_fact.specs.declared.keys.Key.{Key}
use Rattle.rvd_fact.specs.declared.cells.Cell.{Cell}
use Rattle.rvd_fact.specs.declared.values.Form.{Form}
use Rattle.rvd_fact.specs.declared.values.Form.TheVariants.{Byte, Half, Word, Str}
use Rattle.rvd_fact.specs.declared.values.RefClass.{RefClass}
use Rattle.rvd_fact.specs.declared.values.RefClass.TheVariants.{Call, Jump, Cond, Datum, Read, Write}
use Rattle.rvd_fact.specs.declared.values.Value.{Value}
use Rattle.rvd_fact.specs.declared.values.Value.TheVariants.{Block, Code, Plain, Ref}
use Rattle.rvd_fact.specs.declared.keys.Kind.TheVariants as kind
use Rattle.rvd_fact.specs.Program.{Program, cell_at}

-- keys with the sub 0
abbrev pub key_of : Kind → ℕ → Key
key_of k a = record { at = a; kind = k; sub = 0 }

abbrev pub block_key : ℕ → Key
block_key = key_of kind.Block

abbrev pub unit_key : ℕ → Key
unit_key = key_of kind.Unit

abbrev pub func_key : ℕ → Key
func_key = key_of kind.Func

-- how many bytes a form takes
abbrev pub form_len : Form → ℕ
form_len Byte = 1
form_len Half = 2
form_len Word = 4
form_len (Str n) = n

-- how many bytes a unit takes, and a block; else 0
abbrev pub unit_len : Value → ℕ
unit_len (Code w) = 4
unit_len (Plain f) = form_len f
unit_len v = 0

abbrev pub block_len : Value → ℕ
block_len (Block len perm bytes) = len
block_len v = 0

-- whether an entry is a present unit that has the byte, and whether it is a block that has it
abbrev pub covers : ℕ → Key × Cell → Bool
covers a e = nat_le e.0.at a && nat_lt a (e.0.at + unit_len e.1.value)

abbrev pub surrounds : ℕ → Key × Cell → Bool
surrounds a e = nat_le e.0.at a && nat_lt a (e.0.at + block_len e.1.value)

-- the start of the present unit on a byte
abbrev pub cover : Program → ℕ → Option ℕ
cover S a = option_map (λ (e : Key × Cell). e.0.at) (find (covers a) S)

-- the start of the block around a byte
abbrev pub block : Program → ℕ → Option ℕ
block S a = option_map (λ (e : Key × Cell). e.0.at) (find (surrounds a) S)

-- the bytes of a range from a block's bytes that begin at start
abbrev pub bytes_in : ℕ → ℕ → ℕ → Value → Option (List ℕ)
bytes_in start a n (Block len perm (Some all)) = if nat_lt 0 n && nat_le (a + n) (start + length all) then Some (take n (drop (a - start) all)) else None
bytes_in start a n v = None

-- the bytes of a range that lies in one initialised block, and else nothing
abbrev pub bytes : Program → ℕ → ℕ → Option (List ℕ)
bytes S a n = option_and_then (λ (e : Key × Cell). bytes_in e.0.at a n e.1.value) (find (surrounds a) S)

-- the byte at an address where its block is initialised, and else nothing
abbrev pub byte_at : Program → ℕ → Option ℕ
byte_at S a = option_map (λ bs. slice_index bs 0) (bytes S a 1)

-- the word of four initialised bytes, the lowest first
abbrev pub word : Program → ℕ → Option ℕ
word S a = option_map (from_le_bytes w32) (bytes S a 4)

abbrev pub class_rank : RefClass → ℕ
class_rank Call = 0
class_rank Jump = 1
class_rank Cond = 2
class_rank Datum = 3
class_rank Read = 4
class_rank Write = 5

-- whether a value is a reference of a class to an address
abbrev pub refers : ℕ → RefClass → Value → Bool
refers t class (Ref to own) = to == t && class_rank own == class_rank class
refers t class v = false

-- whether a present reference of a class goes to an address
abbrev pub has_ref_to : Program → ℕ → RefClass → Bool
has_ref_to S t class = list_any (λ (e : Key × Cell). refers t class e.1.value) S

-- a reference as its slot, class and target
abbrev pub ref_of : ℕ → Value → Option (ℕ × RefClass × ℕ)
ref_of slot (Ref to class) = Some (slot, class, to)
ref_of slot v = None

-- the present references from an address, in slot order
abbrev pub refs_from : Program → ℕ → List (ℕ × RefClass × ℕ)
refs_from S a = filter_map (λ (e : Key × Cell). if e.0.at == a then ref_of e.0.sub e.1.value else None) S

-- whether a cell is an instruction
abbrev pub is_code : Value → Bool
is_code (Code w) = true
is_code v = false

abbrev pub is_instruction : Option Cell → Bool
is_instruction None = false
is_instruction (Some c) = is_code c.value

-- whether an instruction is at an address
abbrev pub has_instruction : Program → ℕ → Bool
has_instruction S a = is_instruction (cell_at S (unit_key a))
