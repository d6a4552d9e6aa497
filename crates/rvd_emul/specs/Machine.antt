-- The state of a machine that runs the code of a program, and its memory. Use `start` for the machine before its first step,
-- `written` for a register that is written, `memory_byte` and the numbers made of bytes for what is read, and `stored_from` for
-- what is stored.
-- RISC-V unprivileged ISA 2.1, section 2.1, "Programmers' Model for Base Integer ISA", and section 1.4, "Memory".
use Rattle.std.specs.Prelude.{◌≡◌, ℕ, ◌+◌, Bool, false, ◌&&◌, ◌==◌, nat_le, List, [], ◌∷◌, find, replicate, slice_index, slice_set, Option, unwrap_or, if◌then◌else◌}
use Rattle.std.specs.Option.{option_map, option_map_or}
use Rattle.std.specs.Int.{from_le_bytes, w16, w32}
use Rattle.rvd_fact.specs.declared.keys.Key.{Key}
use Rattle.rvd_fact.specs.declared.cells.Cell.{Cell}
use Rattle.rvd_fact.specs.declared.values.Perm.{Perm}
use Rattle.rvd_fact.specs.declared.values.Value.{Value}
use Rattle.rvd_fact.specs.declared.values.Value.TheVariants.{Block}
use Rattle.rvd_fact.specs.Program.{Program}
use Rattle.rvd_fact.specs.Memory.{block_len, byte_at, bytes_in, surrounds}
use Rattle.rvd_emul.specs.declared.memory.Access.{Access}
use Rattle.rvd_emul.specs.declared.memory.Access.TheVariants.{Fetch, Load, Store}

-- the program counter, the registers x0 to x31, and each byte stored so far with its address, the newest first
pub record Machine : Type 0 where
  pub pc : ℕ
  pub regs : List ℕ
  pub stored : List (ℕ × ℕ)

-- at first each register is 0, and nothing is stored
abbrev pub start : ℕ → Machine
start at = record { pc = at; regs = replicate 32 0; stored = [] }

-- the registers after a write; x0 stays 0
abbrev pub written : List ℕ → ℕ → ℕ → List ℕ
written regs rd value = if rd == 0 then regs else slice_set regs rd value

-- the newest byte stored at an address
abbrev pub newest : List (ℕ × ℕ) → ℕ → Option ℕ
newest stored a = option_map (λ (e : ℕ × ℕ). e.1) (find (λ (e : ℕ × ℕ). a == e.0) stored)

-- a byte of memory: the newest stored, else the program's, which is 0 where its block is uninitialised
abbrev pub memory_byte : Program → List (ℕ × ℕ) → ℕ → ℕ
memory_byte S stored a = unwrap_or (newest stored a) (unwrap_or (byte_at S a) 0)

-- the byte at an address of a block that begins at start, and 0 where the block is uninitialised
abbrev pub own_byte : ℕ → Value → ℕ → ℕ
own_byte start value a = unwrap_or (option_map (λ bs. slice_index bs 0) (bytes_in start a 1 value)) 0

-- two and four bytes as a number, the lowest first
abbrev pub memory_half : Program → List (ℕ × ℕ) → ℕ → ℕ
memory_half S stored a = from_le_bytes w16 (memory_byte S stored a ∷ memory_byte S stored (a + 1) ∷ [])

abbrev pub memory_word : Program → List (ℕ × ℕ) → ℕ → ℕ
memory_word S stored a =
    from_le_bytes w32
    (memory_byte S stored a ∷ memory_byte S stored (a + 1) ∷ memory_byte S stored (a + 2) ∷ memory_byte S stored (a + 3) ∷ [])

-- bytes stored from an address on
abbrev pub stored_from : ℕ → List ℕ → List (ℕ × ℕ) → List (ℕ × ℕ)
stored_from a [] stored = stored
stored_from a (b ∷ bs) stored = stored_from (a + 1) bs ((a, b) ∷ stored)

-- whether a permission lets code be fetched, loaded or stored
abbrev pub permits : Access → Perm → Bool
permits Fetch perm = perm.x
permits Load perm = perm.r
permits Store perm = perm.w

-- the block around an address, as its start and its value
abbrev pub located : Key × Cell → ℕ × Value
located e = (e.0.at, e.1.value)

abbrev pub around : Program → ℕ → Option (ℕ × Value)
around S a = option_map located (find (surrounds a) S)

-- whether n bytes from an address on lie in one block
abbrev pub lies_in : Program → ℕ → ℕ → Bool
lies_in S a n = option_map_or (λ (b : ℕ × Value). nat_le (a + n) (b.0 + block_len b.1)) (around S a) false

-- whether a block permits an access
abbrev pub block_permits : Access → Value → Bool
block_permits access (Block len perm bytes) = permits access perm
block_permits access v = false

-- whether n bytes from an address on lie in one block that permits an access
abbrev pub is_open : Program → Access → ℕ → ℕ → Bool
is_open S access a n = lies_in S a n && option_map_or (λ (b : ℕ × Value). block_permits access b.1) (around S a) false

-- two lists of stored bytes stand for the same memory, and two machines are alike but for that
abbrev pub SameBytes : List (ℕ × ℕ) → List (ℕ × ℕ) → Type 0
SameBytes s t = (a : ℕ) → newest s a ≡ newest t a

pub record IsLike (m n : Machine) : Type 0 where
  pub pc : m.pc ≡ n.pc
  pub regs : m.regs ≡ n.regs
  pub stored : SameBytes m.stored n.stored
