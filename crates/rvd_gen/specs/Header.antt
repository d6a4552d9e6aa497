-- The headers of an image: the file header and two program headers, by the fields of the ELF standard ("ELF Header" and
-- "Program Header") in their order. All numbers are little-endian.
use Rattle.std.specs.Prelude.{ℕ, ◌+◌, List, [], ◌∷◌, ◌++◌}
use Rattle.rvd_gen.specs.declared.header.FileHeader.{FileHeader}
use Rattle.rvd_gen.specs.declared.header.ProgramHeader.{ProgramHeader}
use Rattle.rvd_gen.specs.Bytes.{halves, words}
use Rattle.rvd_gen.specs.Layout.{headers_size, code_start, code_size, strings_start, strings_size}

-- e_ident: the magic number, 32 bits, little-endian, version 1, and padding
abbrev pub identification : List ℕ
identification = 0x7f ∷ 0x45 ∷ 0x4c ∷ 0x46 ∷ 1 ∷ 1 ∷ 1 ∷ 0 ∷ 0 ∷ 0 ∷ 0 ∷ 0 ∷ 0 ∷ 0 ∷ 0 ∷ 0 ∷ []

unfoldable pub file_header_bytes : FileHeader → List ℕ
file_header_bytes h =
    identification ++ halves (h.e_type ∷ h.e_machine ∷ []) ++ words (h.e_version ∷ h.e_entry ∷ h.e_phoff ∷ h.e_shoff ∷ h.e_flags ∷ [])
    ++ halves (h.e_ehsize ∷ h.e_phentsize ∷ h.e_phnum ∷ h.e_shentsize ∷ h.e_shnum ∷ h.e_shstrndx ∷ [])

unfoldable pub program_header_bytes : ProgramHeader → List ℕ
program_header_bytes h = words (h.p_type ∷ h.p_offset ∷ h.p_vaddr ∷ h.p_paddr ∷ h.p_filesz ∷ h.p_memsz ∷ h.p_flags ∷ h.p_align ∷ [])

-- an executable (ET_EXEC) for RISC-V (EM_RISCV) that begins at the code, with two program headers behind the file header
abbrev pub file_header : FileHeader
file_header = record {
  e_type = 2;
  e_machine = 243;
  e_version = 1;
  e_entry = code_start;
  e_phoff = 52;
  e_shoff = 0;
  e_flags = 0;
  e_ehsize = 52;
  e_phentsize = 32;
  e_phnum = 2;
  e_shentsize = 0;
  e_shnum = 0;
  e_shstrndx = 0;
}

-- a loaded segment (PT_LOAD) of `size` bytes from an offset of the file, at an address
abbrev pub loaded : ℕ → ℕ → ℕ → ℕ → ProgramHeader
loaded offset address size flags = record {
  p_type = 1;
  p_offset = offset;
  p_vaddr = address;
  p_paddr = address;
  p_filesz = size;
  p_memsz = size;
  p_flags = flags;
  p_align = 4;
}

-- the segment of the code, which may be read and executed (PF_R and PF_X), and that of the strings, which may be read
abbrev pub code_header : ℕ → ProgramHeader
code_header n = loaded headers_size code_start (code_size n) 5

abbrev pub strings_header : ℕ → ProgramHeader
strings_header n = loaded (headers_size + code_size n) strings_start (strings_size n) 4

-- the headers of the image of n functions
abbrev pub headers : ℕ → List ℕ
headers n = file_header_bytes file_header ++ program_header_bytes (code_header n) ++ program_header_bytes (strings_header n)
