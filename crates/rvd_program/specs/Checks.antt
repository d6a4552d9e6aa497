-- Tests of the program that a change at one key leads to: with them it is decided whether the program is still valid,
-- where the one before was. They look at the key, its new cell, and the entries that these can touch. Use `stays_valid`
-- for the whole test; what it decides is that the program is valid.
use Rattle.std.specs.Prelude.{ℕ, ◌+◌, Bool, true, false, ◌&&◌, not, nat_lt, nat_le, ◌==◌, Option, Some, None, if◌then◌else◌}
use Rattle.std.specs.List.{list_any}
use Rattle.rvd_fact.specs.declared.keys.Key.{Key}
use Rattle.rvd_fact.specs.declared.cells.Cell.{Cell}
use Rattle.rvd_fact.specs.declared.values.Value.{Value}
use Rattle.rvd_fact.specs.declared.values.Value.TheVariants.{Code}
use Rattle.rvd_fact.specs.Order.{rank}
use Rattle.rvd_fact.specs.Program.{Program}
use Rattle.rvd_fact.specs.Memory.{unit_len, block_len, word}
use Rattle.rvd_fact.specs.Valid.{suits, span}

-- whether what is put at a key, a cell or none, may stand there
abbrev pub may_be : Key → Option Cell → Bool
may_be k None = true
may_be k (Some c) = suits k c

-- whether an entry at another address than a has one of the n bytes from a on, where `len` tells its bytes
abbrev pub crowds : (Value → ℕ) → ℕ → ℕ → Key × Cell → Bool
crowds len a n e = nat_lt 0 n && (not (e.0.at == a) && (nat_lt 0 (len e.1.value) && (nat_lt a (e.0.at + len e.1.value) && nat_lt e.0.at (a + n))))

-- whether no entry at another address has one of the n bytes from a on
abbrev pub is_free : (Value → ℕ) → Program → ℕ → ℕ → Bool
is_free len T a n = not (list_any (crowds len a n) T)

-- whether an entry is a block that has the n bytes from a on
abbrev pub encloses : ℕ → ℕ → Key × Cell → Bool
encloses a n e = nat_lt 0 (block_len e.1.value) && (nat_le e.0.at a && nat_le (a + n) (e.0.at + block_len e.1.value))

-- whether memory has a word, and whether a value is no instruction or the one whose word memory has
abbrev pub is_word : Option ℕ → ℕ → Bool
is_word None w = false
is_word (Some x) w = x == w

abbrev pub agrees : Option ℕ → Value → Bool
agrees found (Code w) = is_word found w
agrees found v = true

-- whether an entry is a unit that isn't in a block, or an instruction of another word than memory has
abbrev pub hangs : Program → Key × Cell → Bool
hangs T e = nat_lt 0 (unit_len e.1.value) && not (list_any (encloses e.0.at (unit_len e.1.value)) T && agrees (word T e.0.at) e.1.value)

abbrev pub hangs_at : Program → Key → Option Cell → Bool
hangs_at T k None = false
hangs_at T k (Some c) = hangs T (k, c)

-- whether the units that a change at a key can touch are in blocks, with their words: all, where it changes a block
abbrev pub units_stand : Program → Key → Option Cell → Bool
units_stand T k o = if rank k.kind == 0 then not (list_any (hangs T) T) else not (hangs_at T k o)

-- whether a valid program is still valid with this at a key, where T is the program with it
abbrev pub stays_valid : Program → Key → Option Cell → Bool
stays_valid T k o = may_be k o && (is_free block_len T k.at (span block_len o) && (is_free unit_len T k.at (span unit_len o) && units_stand T k o))
