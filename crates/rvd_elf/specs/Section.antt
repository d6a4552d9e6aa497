-- The section headers (System V ABI, chapter 4, "Sections"). Use `sections_of` for the table, and `string_table_of`
-- for the string table that a section links to.
use Rattle.std.specs.Prelude.{ℕ, ◌+◌, ◌*◌, ◌==◌, if◌then◌else◌, List, [], ◌∷◌, map, slice_get, take, drop, Option, Some, None, Result, Ok, Err}
use Rattle.std.specs.List.{range_with_len}
use Rattle.rvd_elf.specs.declared.header.Header.{Header}
use Rattle.rvd_elf.specs.declared.section.SectionHeader.{SectionHeader}
use Rattle.rvd_elf.specs.declared.refusals.ElfError.{ElfError}
use Rattle.rvd_elf.specs.declared.refusals.ElfError.TheVariants.{BadEntrySize, Truncated, BadLink}
use Rattle.rvd_elf.specs.declared.refusals.Part.TheVariants as part
use Rattle.rvd_elf.specs.Fields.{word, in_file}
use Rattle.rvd_elf.specs.Steps.{◌>>=◌, ◌>>◌, require}

-- the section header at a place
abbrev pub section_header_at : List ℕ → ℕ → SectionHeader
section_header_at b at = record {
  sh_type = word b (at + 4);
  sh_offset = word b (at + 16);
  sh_size = word b (at + 20);
  sh_link = word b (at + 24);
  sh_entsize = word b (at + 36);
}

-- how many section headers there are: none where e_shoff is 0
abbrev pub section_count : Header → ℕ
section_count h = if h.e_shoff == 0 then 0 else h.e_shnum

-- the section header table is in the file, where there is one
unfoldable pub section_table_of : List ℕ → Header → Result (Unit {0}) ElfError
section_table_of b h = if section_count h == 0 then Ok tt else require (
    (h.e_shentsize == 40, BadEntrySize part.SectionTable h.e_shentsize)
    ∷ (in_file b h.e_shoff (40 * h.e_shnum), Truncated part.SectionTable h.e_shoff)
    ∷ [])

-- the section header with an index
abbrev pub section_header_of : List ℕ → Header → ℕ → SectionHeader
section_header_of b h i = section_header_at b (h.e_shoff + 40 * i)

-- the section headers in table order
unfoldable pub sections_of : List ℕ → Header → Result (List SectionHeader) ElfError
sections_of b h = do
  section_table_of b h
  Ok (map (section_header_of b h) (range_with_len 0 (section_count h)))

-- the bytes of a section
abbrev pub section_bytes : List ℕ → SectionHeader → List ℕ
section_bytes b s = take s.sh_size (drop s.sh_offset b)

-- the section that a link names, where it is a string table (SHT_STRTAB)
abbrev pub linked : ℕ → Option SectionHeader → Result SectionHeader ElfError
linked link None = Err (BadLink link)
linked link (Some s) = if s.sh_type == 3 then Ok s else Err (BadLink link)

-- the string table that a link names, all of it in the file
unfoldable pub string_table_of : List ℕ → List SectionHeader → ℕ → Result SectionHeader ElfError
string_table_of b sections link = do
  s ← linked link (slice_get sections link)
  require ((in_file b s.sh_offset s.sh_size, Truncated part.StringTable s.sh_offset) ∷ [])
  Ok s
