-- The ELF header (System V ABI, chapter 4, "ELF Header"; e_machine and e_flags from the RISC-V psABI, "ELF
-- Object Files"). Use `header_of` for the tests in their order and the fields that an import needs.
use Rattle.std.specs.Prelude.{ℕ, Bool, ◌&&◌, ◌==◌, nat_le, List, [], ◌∷◌, length, slice_index, bit_and, Result, Ok}
use Rattle.rvd_elf.specs.declared.header.Header.{Header}
use Rattle.rvd_elf.specs.declared.refusals.ElfError.{ElfError}
use Rattle.rvd_elf.specs.declared.refusals.ElfError.TheVariants.{NotElf, NotElf32, NotLittle, NotExec, NotRiscv, Compressed, Embedded, Truncated}
use Rattle.rvd_elf.specs.declared.refusals.Part.TheVariants as part
use Rattle.rvd_elf.specs.Fields.{half, word}
use Rattle.rvd_elf.specs.Steps.{◌>>◌, require}

-- e_ident begins with the magic number 7f 45 4c 46
abbrev pub has_magic : List ℕ → Bool
has_magic b = nat_le 4 (length b) && (slice_index b 0 == 127) && (slice_index b 1 == 69) && (slice_index b 2 == 76) && (slice_index b 3 == 70)

-- the header is whole, of the class ELFCLASS32 and the data encoding ELFDATA2LSB
unfoldable pub ident_of : List ℕ → Result (Unit {0}) ElfError
ident_of b = require (
    (has_magic b, NotElf)
    ∷ (nat_le 52 (length b), Truncated part.Header 0)
    ∷ (slice_index b 4 == 1, NotElf32)
    ∷ (slice_index b 5 == 1, NotLittle)
    ∷ [])

-- an executable file (ET_EXEC) for RISC-V (EM_RISCV), with neither EF_RISCV_RVC nor EF_RISCV_RVE
unfoldable pub target_of : List ℕ → Result (Unit {0}) ElfError
target_of b = require (
    (half b 16 == 2, NotExec (half b 16))
    ∷ (half b 18 == 243, NotRiscv (half b 18))
    ∷ (bit_and (word b 36) 1 == 0, Compressed)
    ∷ (bit_and (word b 36) 8 == 0, Embedded)
    ∷ [])

-- the header's fields
abbrev pub fields_of : List ℕ → Header
fields_of b = record {
  e_entry = word b 24;
  e_phoff = word b 28;
  e_shoff = word b 32;
  e_phentsize = half b 42;
  e_phnum = half b 44;
  e_shentsize = half b 46;
  e_shnum = half b 48;
}

unfoldable pub header_of : List ℕ → Result Header ElfError
header_of b = do
  ident_of b
  target_of b
  Ok (fields_of b)
