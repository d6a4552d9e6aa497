-- A generated image is imported (`image_imported`): each test of the import, in its order.
use Rattle.std.proofs.Common.{◌≡◌, ℕ, ◌+◌, ◌-◌, ◌*◌, ◌/◌, ◌%◌, ◌^◌, ◌<◌, ◌≤◌, Bool, true, false, ◌&&◌, cond, List, [], ◌∷◌, ◌++◌, length, Option, Some, None, Result, Ok, Err, refl, ap, sym, subst, ◌∙◌, arith}
use Rattle.std.specs.Prelude.{if◌then◌else◌, ◌==◌, nat_lt, nat_le, slice_index, sum_by}
use Rattle.std.proofs.lemmas.Bool.{lt-ltb, le-leb, le-ltb}
use Rattle.rvd_fact.specs.declared.cells.Change.{Change}
use Rattle.rvd_fact.specs.declared.causes.What.TheVariants as what
use Rattle.rvd_elf.specs.declared.refusals.ElfError.{ElfError}
use Rattle.rvd_elf.specs.declared.refusals.ElfError.TheVariants.{NotElf, NotElf32, NotLittle, Truncated, BadRange, BadEntrySize, TooMany, Overlap}
use Rattle.rvd_elf.specs.declared.refusals.Part.TheVariants as part
use Rattle.rvd_elf.specs.declared.header.Header.{Header}
use Rattle.rvd_elf.specs.declared.segment.ProgramHeader.{ProgramHeader}
use Rattle.rvd_elf.specs.declared.segment.Region.{Region}
use Rattle.rvd_elf.specs.declared.symbol.Symbol.{Symbol}
use Rattle.rvd_elf.specs.Fields.{half, word, in_file}
use Rattle.rvd_elf.specs.Steps.{◌>>=◌, ◌>>◌, require, in_turn, behind}
use Rattle.rvd_elf.specs.Header.{has_magic, ident_of, target_of, fields_of, header_of}
use Rattle.rvd_elf.specs.Segment.{program_header_at, is_load, range_of, perm_of, regions_of, load_at, load_step, program_table_of, loads_of, loaded_len, by_start, apart, within_limits, memory_of}
use Rattle.rvd_elf.specs.Section.{section_table_of, sections_of}
use Rattle.rvd_elf.specs.Symbol.{table_symbols, symbols_of}
use Rattle.rvd_elf.specs.Facts.{changes_of, facts_of, with_facts}
use Rattle.rvd_elf.specs.Import.{import_of}
use Rattle.rvd_gen.specs.Header.{headers, file_header_bytes, program_header_bytes}
use Rattle.rvd_gen.specs.Code.{code}
use Rattle.rvd_gen.specs.Strings.{strings}
use Rattle.rvd_gen.specs.Image.{image}

-- one step after another
bind : {A B : Type 0} (r : Result A ElfError) (f : A → Result B ElfError) (x : A) (y : Result B ElfError) → r ≡ Ok x → f x ≡ y → (r >>= f) ≡ y
bind r f x y is h = subst (λ (q : Result _ ElfError). (q >>= f) ≡ y) (sym is) h

-- tests that pass
two_pass : (a b : Bool) (e f : ElfError) → a ≡ true → b ≡ true → require ((a, e) ∷ (b, f) ∷ []) ≡ Ok tt
two_pass a b e f p q = subst (λ (x : Bool). require ((x, e) ∷ (b, f) ∷ []) ≡ Ok tt) (sym p) (subst (λ (x : Bool). require ((x, f) ∷ []) ≡ Ok tt) (sym q) refl)

four_pass : (a b c d : Bool) (e f g h : ElfError) → a ≡ true → b ≡ true → c ≡ true → d ≡ true → require ((a, e) ∷ (b, f) ∷ (c, g) ∷ (d, h) ∷ []) ≡ Ok tt
four_pass a b c d e f g h p q r t =
    subst (λ (x : Bool). require ((x, e) ∷ (b, f) ∷ (c, g) ∷ (d, h) ∷ []) ≡ Ok tt) (sym p)
    (subst (λ (x : Bool). require ((x, f) ∷ (c, g) ∷ (d, h) ∷ []) ≡ Ok tt) (sym q) (two_pass c d g h r t))

both : (a b : Bool) → a ≡ true → b ≡ true → (a && b) ≡ true
both a b p q = subst (λ (x : Bool). (x && b) ≡ true) (sym p) q

-- a loaded segment whose range is right makes its regions
load_at-loads : (b : List ℕ) (i : ℕ) (p : ProgramHeader) (rs : List Region) → is_load p ≡ true → range_of b i p ≡ Ok tt → regions_of p ≡ rs → load_at b i p ≡ Ok rs
unfolding load_at
load_at-loads b i p rs l r e =
    let P : Bool → Type 0 = λ x. (if x then (range_of b i p >> Ok (regions_of p)) else Ok []) ≡ Ok rs in
    subst P (sym l) (bind (range_of b i p) (λ _. Ok (regions_of p)) tt (Ok rs) r (ap (λ (x : List Region). Ok x) e))

-- a number of 32 bits is read back
word_back : (x : ℕ) → x < 2 ^ 32 → x % 256 + 256 * (x / 256 % 256 + 256 * (x / 65536 % 256 + 256 * (x / 16777216 % 256 + 256 * 0))) ≡ x
word_back x h = omega arith

-- the fields of the file header
abbrev header : Header
header = record { e_entry = 65536; e_phoff = 52; e_shoff = 0; e_phentsize = 32; e_phnum = 2; e_shentsize = 0; e_shnum = 0 }

-- a program header, and its region
abbrev loaded : ℕ → ℕ → ℕ → ℕ → ProgramHeader
loaded offset address len flags = record { p_type = 1; p_offset = offset; p_vaddr = address; p_filesz = len; p_memsz = len; p_flags = flags }

abbrev region : ℕ → ℕ → ℕ → ℕ → Region
region offset address len flags = record { start = address; len = len; perm = perm_of flags; offset = Some offset }

module _ (n : ℕ) (some : 0 < n) (few : n ≤ 30000) (size : length (image n) ≡ 116 + 48 * n) where
  long : (k : ℕ) → k ≤ 116 + 48 * n → nat_le k (length (image n)) ≡ true
  long k h = ap (nat_le k) size ∙ le-leb k (116 + 48 * n) h

  magic : has_magic (image n) ≡ true
  unfolding file_header_bytes program_header_bytes
  magic = subst (λ (x : Bool). (x && true && true && true && true) ≡ true) (sym (long 4 (omega arith))) refl

  ident : ident_of (image n) ≡ Ok tt
  unfolding ident_of file_header_bytes program_header_bytes
  ident = four_pass (has_magic (image n)) (nat_le 52 (length (image n))) (slice_index (image n) 4 == 1) (slice_index (image n) 5 == 1) NotElf (Truncated part.Header 0) NotElf32 NotLittle
      magic (long 52 (omega arith)) refl refl

  target : target_of (image n) ≡ Ok tt
  unfolding target_of half word file_header_bytes program_header_bytes
  target = refl

  fields : fields_of (image n) ≡ header
  unfolding half word file_header_bytes program_header_bytes
  fields = refl

  headed : header_of (image n) ≡ Ok header
  unfolding header_of
  headed = bind (ident_of (image n)) _ tt _ ident (bind (target_of (image n)) _ tt _ target (ap (λ (h : Header). Ok h) fields))

  -- the program headers
  code_fits : 32 * n < 2 ^ 32
  code_fits = omega arith

  code_at : program_header_at (image n) 52 ≡ loaded 116 65536 (32 * n) 5
  unfolding word file_header_bytes program_header_bytes
  code_at = λ j. record { p_type = 1; p_offset = 116; p_vaddr = 65536; p_filesz = word_back (32 * n) code_fits j; p_memsz = word_back (32 * n) code_fits j; p_flags = 5 }

  strings_at : program_header_at (image n) 84 ≡ loaded (116 + 32 * n) 2097152 (16 * n) 4
  unfolding word file_header_bytes program_header_bytes
  strings_at = λ j. record {
    p_type = 1;
    p_offset = word_back (116 + 32 * n) (omega arith) j;
    p_vaddr = 2097152;
    p_filesz = word_back (16 * n) (omega arith) j;
    p_memsz = word_back (16 * n) (omega arith) j;
    p_flags = 4;
  }

  -- a loaded segment whose bytes the file has makes one region
  loads : (i offset address len flags : ℕ) → 0 < len → address + len ≤ 4294967296 → offset + len ≤ 116 + 48 * n
      → load_at (image n) i (loaded offset address len flags) ≡ Ok (region offset address len flags ∷ [])
  unfolding range_of
  loads i offset address len flags has ends within =
      let p : ProgramHeader = loaded offset address len flags in
      let filled : nat_lt 0 len ≡ true = lt-ltb 0 len has in
      let same : nat_le len len ≡ true = le-leb len len (omega arith) in
      let no_rest : nat_lt len len ≡ false = le-ltb len len (omega arith) in
      let fits : nat_le (address + len) 4294967296 ≡ true = le-leb (address + len) 4294967296 ends in
      let held : nat_le (offset + len) (length (image n)) ≡ true = long (offset + len) within in
      let ranges : range_of (image n) i p ≡ Ok tt =
      two_pass (nat_le len len && nat_le (address + len) 4294967296) (nat_le (offset + len) (length (image n))) (BadRange i) (Truncated (part.Segment i) offset)
      (both (nat_le len len) (nat_le (address + len) 4294967296) same fits) held in
      let rest : List Region = record { start = address + len; len = len - len; perm = perm_of flags; offset = None } ∷ [] in
      let P : Bool → Type 0 = λ x. ((if x then region offset address len flags ∷ [] else []) ++ (if nat_lt len len then rest else [])) ≡ region offset address len flags ∷ [] in
      let Q : Bool → Type 0 = λ x. (region offset address len flags ∷ (if x then rest else [])) ≡ region offset address len flags ∷ [] in
      load_at-loads (image n) i p (region offset address len flags ∷ []) filled ranges (subst P (sym filled) (subst Q (sym no_rest) refl))

  code_load : load_step (image n) header 0 ≡ Ok (region 116 65536 (32 * n) 5 ∷ [])
  code_load = subst (λ (p : ProgramHeader). load_at (image n) 0 p ≡ Ok (region 116 65536 (32 * n) 5 ∷ [])) (sym code_at) (loads 0 116 65536 (32 * n) 5 (omega arith) (omega arith) (omega arith))

  strings_load : load_step (image n) header 1 ≡ Ok (region (116 + 32 * n) 2097152 (16 * n) 4 ∷ [])
  strings_load =
      subst (λ (p : ProgramHeader). load_at (image n) 1 p ≡ Ok (region (116 + 32 * n) 2097152 (16 * n) 4 ∷ [])) (sym strings_at)
      (loads 1 (116 + 32 * n) 2097152 (16 * n) 4 (omega arith) (omega arith) (omega arith))

  abbrev regions : List Region
  regions = region 116 65536 (32 * n) 5 ∷ region (116 + 32 * n) 2097152 (16 * n) 4 ∷ []

  table : program_table_of (image n) header ≡ Ok tt
  unfolding program_table_of
  table = two_pass true (nat_le 116 (length (image n))) (BadEntrySize part.ProgramTable 32) (Truncated part.ProgramTable 52) refl (long 116 (omega arith))

  segments : loads_of (image n) header ≡ Ok regions
  unfolding loads_of
  segments =
      bind (program_table_of (image n) header) _ tt _ table
      (bind (behind [] (load_step (image n) header 0)) _ (region 116 65536 (32 * n) 5 ∷ []) _
      (bind (load_step (image n) header 0) _ (region 116 65536 (32 * n) 5 ∷ []) _ code_load refl)
      (bind (load_step (image n) header 1) _ (region (116 + 32 * n) 2097152 (16 * n) 4 ∷ []) _ strings_load refl))

  limits : within_limits regions ≡ Ok tt
  unfolding within_limits
  limits =
      two_pass true (nat_le (sum_by loaded_len regions) 4194304) (TooMany what.Blocks 2) (TooMany what.LoadedBytes (sum_by loaded_len regions)) refl
      (le-leb (sum_by loaded_len regions) 4194304 (omega arith))

  separate : apart (by_start regions) ≡ Ok tt
  separate =
      let clear : nat_lt 2097152 (65536 + 32 * n) ≡ false = le-ltb 2097152 (65536 + 32 * n) (omega arith) in
      let P : Bool → Type 0 = λ x. (if x then Err (Overlap 65536 2097152) else Ok tt) ≡ Ok tt in
      subst P (sym clear) refl

  memory : memory_of (image n) header ≡ Ok regions
  unfolding memory_of
  memory =
      bind (loads_of (image n) header) _ regions _ segments
      (bind (within_limits regions) _ tt _ limits
      (bind (apart (by_start regions)) _ tt _ separate refl))

  symbols : symbols_of (image n) header ≡ Ok []
  unfolding symbols_of sections_of section_table_of table_symbols
  symbols = refl

  -- the image of n functions is imported
  pub image_imported : (changes : List Change) × (import_of (image n) ≡ Ok changes)
  unfolding import_of
  image_imported = (
    changes_of (with_facts [] (facts_of (image n) header regions [])),
    bind (header_of (image n)) _ header _ headed
        (bind (memory_of (image n) header) _ regions _ memory
        (bind (symbols_of (image n) header) _ [] _ symbols refl)),
  )
