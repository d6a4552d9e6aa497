-- The tests of an edit that speak of memory and of cells: where an address lies, which bytes are there, what meets a
-- range, and what stands at a key. Each gives its refusal where it fails. Use `room` for how far a block reaches, and
-- `first_met` for the lowest unit or block that meets a range.
use Rattle.std.specs.Prelude.{ℕ, ◌+◌, ◌-◌, ◌%◌, Bool, false, ◌&&◌, nat_lt, nat_le, ◌==◌, List, find, Option, Some, None, is_some, Result, Ok, Err}
use Rattle.std.specs.Option.{option_map, option_map_or, ok_or}
use Rattle.std.specs.List.{count_by}
use Rattle.rvd_decode.specs.Table.{instruction}
use Rattle.rvd_fact.specs.declared.keys.Key.{Key}
use Rattle.rvd_fact.specs.declared.cells.Cell.{Cell}
use Rattle.rvd_fact.specs.declared.values.Value.{Value}
use Rattle.rvd_fact.specs.Program.{Program, cell_at, is_present, is_gone}
use Rattle.rvd_fact.specs.Memory.{block, bytes, block_len, unit_len}
use Rattle.rvd_fact.specs.Valid.{block_span}
use Rattle.rvd_event.specs.declared.edits.EditRefusal.{EditRefusal}
use Rattle.rvd_event.specs.declared.edits.EditRefusal.TheVariants.{LeavesSpace, BlockOverlap, BlocksFull, Unaligned, NoBlock, NoBytes, Overlap, BadInstruction, NoSuch, Present}
use Rattle.rvd_edit.specs.Steps.{require, forbid}

-- how many addresses there are, and how many blocks a program may have
abbrev pub addresses : ℕ
addresses = 4294967296

abbrev pub max_blocks : ℕ
max_blocks = 64

-- an address is a multiple of a size
abbrev pub aligned : ℕ → ℕ → Result (Unit {0}) EditRefusal
aligned a size = require (a % size == 0) (Unaligned a)

-- an address lies in a block
abbrev pub in_memory : Program → ℕ → Result (Unit {0}) EditRefusal
in_memory S a = require (is_some (block S a)) (NoBlock a)

-- how many bytes the block around an address has from there on, and 0 where the address is in no block
abbrev pub room : Program → ℕ → ℕ
room S a = option_map_or (λ start. start + block_span S start - a) (block S a) 0

-- the n bytes from an address on lie in the block around it; else the first that doesn't is told
abbrev pub in_one_block : Program → ℕ → ℕ → Result (Unit {0}) EditRefusal
in_one_block S a n = require (nat_le n (room S a)) (NoBlock ((a + room S a) % addresses))

-- the n bytes from an address on, which an uninitialised block doesn't have
abbrev pub stored : Program → ℕ → ℕ → Result (List ℕ) EditRefusal
stored S a n = ok_or (bytes S a n) (NoBytes a)

-- whether an entry has one of the n bytes from an address on, where `len` tells how many bytes it has
abbrev pub meets : (Value → ℕ) → ℕ → ℕ → Key × Cell → Bool
meets len a n e = nat_lt 0 (len e.1.value) && (nat_lt a (e.0.at + len e.1.value) && nat_lt e.0.at (a + n))

-- where the lowest entry begins that meets the n bytes from an address on
abbrev pub first_met : (Value → ℕ) → Program → ℕ → ℕ → Option ℕ
first_met len S a n = option_map (λ (e : Key × Cell). e.0.at) (find (meets len a n) S)

-- nothing is met; else the refusal tells where it begins
abbrev pub met_nothing : Option ℕ → (ℕ → EditRefusal) → Result (Unit {0}) EditRefusal
met_nothing None refusal = Ok tt
met_nothing (Some start) refusal = Err (refusal start)

-- no present unit has one of the n bytes from an address on
abbrev pub no_unit_met : Program → ℕ → ℕ → Result (Unit {0}) EditRefusal
no_unit_met S a n = met_nothing (first_met unit_len S a n) Overlap

-- a range of n bytes ends by the end of the address space, and no block has one of its bytes
abbrev pub in_space : ℕ → ℕ → Result (Unit {0}) EditRefusal
in_space a n = require (nat_le (a + n) addresses) (LeavesSpace a)

abbrev pub no_block_met : Program → ℕ → ℕ → Result (Unit {0}) EditRefusal
no_block_met S a n = met_nothing (first_met block_len S a n) BlockOverlap

-- a block more may be there
abbrev pub is_block : Key × Cell → Bool
is_block e = nat_lt 0 (block_len e.1.value)

abbrev pub one_block_more : Program → Result (Unit {0}) EditRefusal
one_block_more S = require (nat_lt (count_by is_block S) max_blocks) BlocksFull

-- a word is an instruction
abbrev pub is_decoded : ℕ → Result (Unit {0}) EditRefusal
is_decoded w = require (is_some (instruction w)) (BadInstruction w)

-- a fact is present at a key, and none is
abbrev pub there : Program → Key → Result (Unit {0}) EditRefusal
there S k = require (is_present (cell_at S k)) (NoSuch k)

abbrev pub not_there : Program → Key → Result (Unit {0}) EditRefusal
not_there S k = forbid (is_present (cell_at S k)) (Present k)

-- a deleted fact left Gone at a key
abbrev pub is_left : Option Cell → Bool
is_left None = false
is_left (Some c) = is_gone c.value

abbrev pub gone_there : Program → Key → Result (Unit {0}) EditRefusal
gone_there S k = require (is_left (cell_at S k)) (NoSuch k)
