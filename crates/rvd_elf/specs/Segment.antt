-- The program headers, and the memory that the loadable segments make (System V ABI, chapter 5, "Program
-- Header"). Use `memory_of` for the regions of memory in their order.
use Rattle.std.specs.Prelude.{ℕ, ◌<◌, ◌≤◌, ◌+◌, ◌-◌, ◌*◌, Bool, ◌&&◌, not, ◌==◌, nat_lt, nat_le, if◌then◌else◌, List, [], ◌∷◌, ◌++◌, length, sum_by, bit_and, is_some, Some, None, Result, Ok, Err}
use Rattle.std.specs.Option.{ForSome}
use Rattle.rvd_fact.specs.declared.values.Perm.{Perm}
use Rattle.rvd_fact.specs.declared.causes.What.TheVariants as what
use Rattle.rvd_elf.specs.declared.header.Header.{Header}
use Rattle.rvd_elf.specs.declared.segment.ProgramHeader.{ProgramHeader}
use Rattle.rvd_elf.specs.declared.segment.Region.{Region}
use Rattle.rvd_elf.specs.declared.refusals.ElfError.{ElfError}
use Rattle.rvd_elf.specs.declared.refusals.ElfError.TheVariants.{BadEntrySize, Truncated, BadRange, Overlap, TooMany}
use Rattle.rvd_elf.specs.declared.refusals.Part.TheVariants as part
use Rattle.rvd_elf.specs.Fields.{word, in_file}
use Rattle.rvd_elf.specs.Steps.{◌>>=◌, ◌>>◌, require, in_turn}

-- the program header at a place
abbrev pub program_header_at : List ℕ → ℕ → ProgramHeader
program_header_at b at = record {
  p_type = word b at;
  p_offset = word b (at + 4);
  p_vaddr = word b (at + 8);
  p_filesz = word b (at + 16);
  p_memsz = word b (at + 20);
  p_flags = word b (at + 24);
}

-- a loadable segment (PT_LOAD) that takes memory
abbrev pub is_load : ProgramHeader → Bool
is_load p = (p.p_type == 1) && nat_lt 0 p.p_memsz

-- the tests of a loaded segment, by the index of its program header
unfoldable pub range_of : List ℕ → ℕ → ProgramHeader → Result (Unit {0}) ElfError
range_of b i p = require (
    (nat_le p.p_filesz p.p_memsz && nat_le (p.p_vaddr + p.p_memsz) 4294967296, BadRange i)
    ∷ (in_file b p.p_offset p.p_filesz, Truncated (part.Segment i) p.p_offset)
    ∷ [])

-- the flags PF_X 1, PF_W 2 and PF_R 4
abbrev pub perm_of : ℕ → Perm
perm_of flags = record { r = not (bit_and flags 4 == 0); w = not (bit_and flags 2 == 0); x = not (bit_and flags 1 == 0) }

-- the bytes that the file holds, and the rest of the segment's memory, which is not initialised
abbrev pub filled_of : ProgramHeader → List Region
filled_of p = if nat_lt 0 p.p_filesz then record { start = p.p_vaddr; len = p.p_filesz; perm = perm_of p.p_flags; offset = Some p.p_offset } ∷ [] else []

abbrev pub rest_of : ProgramHeader → List Region
rest_of p = if nat_lt p.p_filesz p.p_memsz then record { start = p.p_vaddr + p.p_filesz; len = p.p_memsz - p.p_filesz; perm = perm_of p.p_flags; offset = None } ∷ [] else []

abbrev pub regions_of : ProgramHeader → List Region
regions_of p = filled_of p ++ rest_of p

-- the regions of a program header by its index
unfoldable pub load_at : List ℕ → ℕ → ProgramHeader → Result (List Region) ElfError
load_at b i p = if is_load p then (do
  range_of b i p
  Ok (regions_of p)) else Ok []

-- the program header table is in the file, where there is one
unfoldable pub program_table_of : List ℕ → Header → Result (Unit {0}) ElfError
program_table_of b h = if h.e_phnum == 0 then Ok tt else require (
    (h.e_phentsize == 32, BadEntrySize part.ProgramTable h.e_phentsize)
    ∷ (in_file b h.e_phoff (32 * h.e_phnum), Truncated part.ProgramTable h.e_phoff)
    ∷ [])

-- the step of each program header
abbrev pub load_step : List ℕ → Header → ℕ → Result (List Region) ElfError
load_step b h i = load_at b i (program_header_at b (h.e_phoff + 32 * i))

-- the regions of the loaded segments, in table order
unfoldable pub loads_of : List ℕ → Header → Result (List Region) ElfError
loads_of b h = do
  program_table_of b h
  in_turn (load_step b h) h.e_phnum

-- how many bytes of a region the file holds
abbrev pub loaded_len : Region → ℕ
loaded_len r = if is_some r.offset then r.len else 0

-- a region in its place: before the first of those that begin no lower
abbrev pub placed_by_start : Region → List Region → List Region
placed_by_start r [] = r ∷ []
placed_by_start r (s ∷ ss) = if nat_le r.start s.start then r ∷ s ∷ ss else s ∷ placed_by_start r ss

-- sorted by start, with those that begin together in table order
abbrev pub by_start : List Region → List Region
by_start [] = []
by_start (r ∷ rs) = placed_by_start r (by_start rs)

-- no region reaches into the next
abbrev pub apart : List Region → Result (Unit {0}) ElfError
apart [] = Ok tt
apart (r ∷ []) = Ok tt
apart (r ∷ s ∷ rs) = if nat_lt s.start (r.start + r.len) then Err (Overlap r.start s.start) else apart (s ∷ rs)

-- regions within the limits of an import: at most 64 blocks, and 4,194,304 bytes that the file holds
unfoldable pub within_limits : List Region → Result (Unit {0}) ElfError
within_limits rs = require (
    (nat_le (length rs) 64, TooMany what.Blocks (length rs))
    ∷ (nat_le (sum_by loaded_len rs) 4194304, TooMany what.LoadedBytes (sum_by loaded_len rs))
    ∷ [])

-- the regions of the loaded segments, sorted by start
unfoldable pub memory_of : List ℕ → Header → Result (List Region) ElfError
memory_of b h = do
  regions ← loads_of b h
  within_limits regions
  apart (by_start regions)
  Ok (by_start regions)

-- a region has bytes and ends by 2 ^ 32, and the file has those of an initialised one
pub record IsRegion (b : List ℕ) (r : Region) : Type 0 where
  pub some : 0 < r.len
  pub ends : r.start + r.len ≤ 4294967296
  pub filled : ForSome r.offset (λ o. o + r.len ≤ length b)
