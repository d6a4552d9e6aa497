-- The symbol table (System V ABI, chapter 4, "Symbol Table" and "String Table"; mapping symbols as in the RISC-V
-- psABI). Use `symbols_of` for the symbols with a name that an import considers, in table order.
use Rattle.std.specs.Prelude.{◌≡◌, ◌≢◌, ℕ, ◌<◌, ◌≤◌, ◌+◌, ◌-◌, ◌*◌, ◌/◌, ◌%◌, Bool, ◌&&◌, not, ◌==◌, nat_lt, nat_le, if◌then◌else◌, List, [], ◌∷◌, length, slice_index, drop, find, position, Option, Some, None, Result, Ok, Err}
use Rattle.rvd_fact.specs.declared.causes.What.TheVariants as what
use Rattle.rvd_elf.specs.declared.header.Header.{Header}
use Rattle.rvd_elf.specs.declared.section.SectionHeader.{SectionHeader}
use Rattle.rvd_elf.specs.declared.symbol.SymbolEntry.{SymbolEntry}
use Rattle.rvd_elf.specs.declared.symbol.Symbol.{Symbol}
use Rattle.rvd_elf.specs.declared.refusals.ElfError.{ElfError}
use Rattle.rvd_elf.specs.declared.refusals.ElfError.TheVariants.{BadEntrySize, Truncated, TooMany, BadName}
use Rattle.rvd_elf.specs.declared.refusals.Part.TheVariants as part
use Rattle.rvd_elf.specs.Fields.{half, word, in_file}
use Rattle.rvd_elf.specs.Steps.{◌>>=◌, ◌>>◌, require, in_turn}
use Rattle.rvd_elf.specs.Section.{sections_of, section_bytes, string_table_of}

-- the entry at a place
abbrev pub entry_at : List ℕ → ℕ → SymbolEntry
entry_at b at = record { st_name = word b at; st_value = word b (at + 4); st_info = slice_index b (at + 12); st_shndx = half b (at + 14) }

-- the two halves of st_info
abbrev pub st_bind : SymbolEntry → ℕ
st_bind e = e.st_info / 16

abbrev pub st_type : SymbolEntry → ℕ
st_type e = e.st_info % 16

-- of the type STT_NOTYPE, STT_OBJECT or STT_FUNC, and neither undefined (SHN_UNDEF) nor common (SHN_COMMON)
abbrev pub is_defined : SymbolEntry → Bool
is_defined e = nat_le (st_type e) 2 && not (e.st_shndx == 0) && not (e.st_shndx == 0xfff2)

-- a mapping symbol: local (STB_LOCAL), of the type STT_NOTYPE, and its name begins with '$'
abbrev pub is_mapping : SymbolEntry → ℕ → Bool
is_mapping e first = (st_bind e == 0) && (st_type e == 0) && (first == 36)

-- how many bytes stand before the first zero byte from a place of a string table on
abbrev pub name_len : List ℕ → ℕ → Option ℕ
name_len strings at = position (λ c. c == 0) (drop at strings)

-- the length of a name, where it has 1 to 1,000 bytes; a name has to end in the string table
abbrev pub name_of : ℕ → Option ℕ → Result (Option ℕ) ElfError
name_of i None = Err (BadName i)
name_of i (Some n) = Ok (if nat_lt 0 n && nat_le n 1000 then Some n else None)

-- the symbol of an entry with a name of such a length
abbrev pub named : List ℕ → SectionHeader → SymbolEntry → Option ℕ → List Symbol
named b strings e None = []
named b strings e (Some n) = if is_mapping e (slice_index (section_bytes b strings) e.st_name) then []
    else record { value = e.st_value; is_function = st_type e == 2; name_at = strings.sh_offset + e.st_name; name_len = n } ∷ []

-- the symbol of an entry by its index, where an import considers it
unfoldable pub symbol_of : List ℕ → SectionHeader → ℕ → SymbolEntry → Result (List Symbol) ElfError
symbol_of b strings i e = if is_defined e then (do
  name ← name_of i (name_len (section_bytes b strings) e.st_name)
  Ok (named b strings e name)) else Ok []

-- the step of each entry; that with the index 0 (STN_UNDEF) is none
abbrev pub symbol_step : List ℕ → SectionHeader → SectionHeader → ℕ → Result (List Symbol) ElfError
symbol_step b table strings i = if i == 0 then Ok [] else symbol_of b strings i (entry_at b (table.sh_offset + 16 * i))

-- a symbol table (SHT_SYMTAB)
abbrev pub is_symbol_table : SectionHeader → Bool
is_symbol_table s = s.sh_type == 2

-- how many entries a symbol table has
abbrev pub entry_count : SectionHeader → ℕ
entry_count s = s.sh_size / 16

-- the symbol table is in the file and has at most 200,000 entries
unfoldable pub symbol_table_of : List ℕ → SectionHeader → Result (Unit {0}) ElfError
symbol_table_of b s = require (
    (s.sh_entsize == 16, BadEntrySize part.SymbolTable s.sh_entsize)
    ∷ (in_file b s.sh_offset s.sh_size, Truncated part.SymbolTable s.sh_offset)
    ∷ (nat_le (entry_count s) 200000, TooMany what.Symbols (entry_count s))
    ∷ [])

-- the symbols of the symbol table, where there is one
unfoldable pub table_symbols : List ℕ → List SectionHeader → Option SectionHeader → Result (List Symbol) ElfError
table_symbols b sections None = Ok []
table_symbols b sections (Some s) = do
  symbol_table_of b s
  strings ← string_table_of b sections s.sh_link
  in_turn (symbol_step b s strings) (entry_count s)

-- the symbols of the first symbol table
unfoldable pub symbols_of : List ℕ → Header → Result (List Symbol) ElfError
symbols_of b h = do
  sections ← sections_of b h
  table_symbols b sections (find is_symbol_table sections)

-- where a string table's last zero byte stands: before this place, which is 0 where there is none
pub record LastEnd (strings : List ℕ) (end : ℕ) : Type 0 where
  pub within : end ≤ length strings
  pub last : 0 < end → slice_index strings (end - 1) ≡ 0
  pub rest : (k : ℕ) → end ≤ k → k < length strings → slice_index strings k ≢ 0

-- a symbol is at an address, and its name has at most 1,000 bytes, all of them in the file
pub record IsNamed (b : List ℕ) (s : Symbol) : Type 0 where
  pub address : s.value < 4294967296
  pub short : s.name_len ≤ 1000
  pub in_file : s.name_at + s.name_len ≤ length b
