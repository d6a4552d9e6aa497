-- What is known of the symbols of an import: each is at an address, and its name has at most 1,000 bytes, all in
-- the file (`symbols_named`).
use Rattle.std.proofs.Common.{◌≡◌, ℕ, suc, ◌+◌, ◌*◌, ◌<◌, ◌≤◌, true, false, cond, ◌&&◌, ◌==◌, List, [], ◌∷◌, length, get_or, drop, nat_lt, nat_le, Option, Some, None, Result, Ok, refl, ap, subst, arith, length-drop, length-take}
use Rattle.std.specs.Prelude.{find, slice_index}
use Rattle.std.specs.List.{AllByRecursion}
use Rattle.std.proofs.lemmas.Bool.{and_parts}
use Rattle.std.proofs.lemmas.Bool.Decides.{nat_tests}
use Rattle.std.proofs.lemmas.List.Quantifiers.{position-Some}
use Rattle.rvd_elf.specs.declared.header.Header.{Header}
use Rattle.rvd_elf.specs.declared.section.SectionHeader.{SectionHeader}
use Rattle.rvd_elf.specs.declared.symbol.SymbolEntry.{SymbolEntry}
use Rattle.rvd_elf.specs.declared.symbol.Symbol.{Symbol}
use Rattle.rvd_elf.specs.declared.refusals.ElfError.{ElfError}
use Rattle.rvd_elf.specs.Fields.{word}
use Rattle.rvd_elf.specs.Steps.{◌>>=◌, in_turn}
use Rattle.rvd_elf.specs.Section.{sections_of, section_bytes, string_table_of}
use Rattle.rvd_elf.specs.Symbol.{IsNamed, entry_at, entry_count, is_defined, is_mapping, is_symbol_table, name_len, name_of, named, st_type, symbol_of, symbol_step, symbol_table_of, symbols_of, table_symbols}
use Rattle.rvd_elf.proofs.StepLemmas.{bind_ok, all_in_turn}

abbrev pub IsBytes : List ℕ → Type 0
IsBytes b = (i : ℕ) → get_or b i 0 < 256

pub word_below : (b : List ℕ) (at : ℕ) → IsBytes b → word b at < 4294967296
unfolding word
word_below b at bytes = omega (arith, bytes at, bytes (suc at), bytes (suc (suc at)), bytes (suc (suc (suc at))))

abbrev given : Option ℕ → Result (Option ℕ) ElfError
given o = Ok o

-- a name that has a length
short_name : (i n : ℕ) (o : Option ℕ) → name_of i o ≡ Ok (Some n) → (o ≡ Some n) × (n ≤ 1000)
short_name i n None e = absurd cc
short_name i n (Some m) e =
    elim (nat_lt 0 m && nat_le m 1000) as (λ t. (nat_lt 0 m && nat_le m 1000) ≡ t → given (cond t (Some m) None) ≡ given (Some n) → (Some m ≡ Some n) × (n ≤ 1000)) [
      | true ↦ λ t e.
          let same : m ≡ n = cc in
          let parts = and_parts (nat_lt 0 m) (nat_le m 1000) t in
          let short : m ≤ 1000 = grind (arith, nat_tests, parts.1) in
          (ap (λ (k : ℕ). Some k) same, omega (arith, same, short))
      | false ↦ λ t e. absurd cc
    ] refl e

named_one : (b : List ℕ) (strings : SectionHeader) (e : SymbolEntry) (i : ℕ) (o : Option ℕ) → e.st_value < 4294967296 → name_of i (name_len (section_bytes b strings) e.st_name) ≡ Ok o → AllByRecursion (IsNamed b) (named b strings e o)
named_one b strings e i None address name = tt
named_one b strings e i (Some n) address name =
    let s = short_name i n (name_len (section_bytes b strings) e.st_name) name in
    let p = position-Some (λ c. c == 0) (drop e.st_name (section_bytes b strings)) n 0 s.0 in
    let inside : (strings.sh_offset + e.st_name) + n ≤ length b =
    omega (arith, p.0, length-drop e.st_name (section_bytes b strings), length-take strings.sh_size (drop strings.sh_offset b), length-drop strings.sh_offset b) in
    elim (is_mapping e (slice_index (section_bytes b strings) e.st_name)) as (λ t. AllByRecursion (IsNamed b) (cond t [] (record { value = e.st_value; is_function = st_type e == 2; name_at = strings.sh_offset + e.st_name; name_len = n } ∷ []))) [
      | true ↦ tt
      | false ↦ (record { address = address; short = s.1; in_file = inside }, tt)
    ]

symbol_is : (b : List ℕ) (strings : SectionHeader) (i : ℕ) (e : SymbolEntry) (ss : List Symbol) → e.st_value < 4294967296 → symbol_of b strings i e ≡ Ok ss → AllByRecursion (IsNamed b) ss
unfolding symbol_of
symbol_is b strings i e ss address h =
    elim (is_defined e) as (λ t. cond t (name_of i (name_len (section_bytes b strings) e.st_name) >>= (λ name. Ok (named b strings e name))) (Ok []) ≡ Ok ss → AllByRecursion (IsNamed b) ss) [
      | true ↦ λ h.
          let name = bind_ok (name_of i (name_len (section_bytes b strings) e.st_name)) (λ name. Ok (named b strings e name)) ss h in
          let same : named b strings e name.0 ≡ ss = cc in
          subst (AllByRecursion (IsNamed b)) same (named_one b strings e i name.0 address name.1)
      | false ↦ λ h. let same : [] ≡ ss = cc in subst (AllByRecursion (IsNamed b)) same tt
    ] h

step_is : (b : List ℕ) (table strings : SectionHeader) (i : ℕ) (ss : List Symbol) → IsBytes b → symbol_step b table strings i ≡ Ok ss → AllByRecursion (IsNamed b) ss
step_is b table strings i ss bytes h =
    elim (i == 0) as (λ t. cond t (Ok []) (symbol_of b strings i (entry_at b (table.sh_offset + 16 * i))) ≡ Ok ss → AllByRecursion (IsNamed b) ss) [
      | true ↦ λ h. let same : [] ≡ ss = cc in subst (AllByRecursion (IsNamed b)) same tt
      | false ↦ λ h. symbol_is b strings i (entry_at b (table.sh_offset + 16 * i)) ss (word_below b (table.sh_offset + 16 * i + 4) bytes) h
    ] h

table_is : (b : List ℕ) (sections : List SectionHeader) (o : Option SectionHeader) (ss : List Symbol) → IsBytes b → table_symbols b sections o ≡ Ok ss → AllByRecursion (IsNamed b) ss
unfolding table_symbols
table_is b sections None ss bytes h = let same : [] ≡ ss = cc in subst (AllByRecursion (IsNamed b)) same tt
table_is b sections (Some table) ss bytes h =
    let tests = bind_ok (symbol_table_of b table) (λ _. string_table_of b sections table.sh_link >>= (λ strings. in_turn (symbol_step b table strings) (entry_count table))) ss h in
    let strings = bind_ok (string_table_of b sections table.sh_link) (λ strings. in_turn (symbol_step b table strings) (entry_count table)) ss tests.2 in
    all_in_turn (IsNamed b) (symbol_step b table strings.0) (λ i xs s. step_is b table strings.0 i xs bytes s) (entry_count table) ss strings.2

pub symbols_named : (b : List ℕ) (h : Header) (ss : List Symbol) → IsBytes b → symbols_of b h ≡ Ok ss → AllByRecursion (IsNamed b) ss
unfolding symbols_of
symbols_named b h ss bytes e =
    let sections = bind_ok (sections_of b h) (λ sections. table_symbols b sections (find is_symbol_table sections)) ss e in
    table_is b sections.0 (find is_symbol_table sections.0) ss bytes sections.2
