-- What is known of the regions of an import: each has bytes, ends by 2 ^ 32 and is in the file where it is
-- initialised (`memory_regions`), and none reaches into the next (`memory_apart`).
use Rattle.std.proofs.Common.{◌≡◌, ℕ, ◌+◌, ◌-◌, ◌*◌, ◌<◌, ◌≤◌, true, false, cond, List, [], ◌∷◌, length, nat_lt, nat_le, Some, None, Ok, refl, sym, ap, ◌∙◌, subst, arith}
use Rattle.std.specs.List.{AllByRecursion}
use Rattle.std.proofs.lemmas.Bool.{and_parts}
use Rattle.std.proofs.lemmas.Bool.Decides.{nat_tests}
use Rattle.rvd_elf.specs.declared.header.Header.{Header}
use Rattle.rvd_elf.specs.declared.segment.ProgramHeader.{ProgramHeader}
use Rattle.rvd_elf.specs.declared.segment.Region.{Region}
use Rattle.rvd_elf.specs.Fields.{in_file}
use Rattle.rvd_elf.specs.Steps.{◌>>◌, in_turn}
use Rattle.rvd_elf.specs.Segment.{IsRegion, is_load, range_of, load_at, load_step, loads_of, program_table_of, program_header_at, filled_of, rest_of, regions_of, perm_of, within_limits, apart, by_start, placed_by_start, memory_of}
use Rattle.rvd_elf.proofs.StepLemmas.{bind_ok, both_passed, All-append, all_in_turn}

-- the parts of a segment
filled_is : (b : List ℕ) (p : ProgramHeader) → p.p_filesz ≤ p.p_memsz → p.p_vaddr + p.p_memsz ≤ 4294967296 → p.p_offset + p.p_filesz ≤ length b → AllByRecursion (IsRegion b) (filled_of p)
filled_is b p le ends in_file =
    elim (nat_lt 0 p.p_filesz) as (λ t. nat_lt 0 p.p_filesz ≡ t → AllByRecursion (IsRegion b) (cond t (record { start = p.p_vaddr; len = p.p_filesz; perm = perm_of p.p_flags; offset = Some p.p_offset } ∷ []) [])) [
      | true ↦ λ t. let positive : 0 < p.p_filesz = grind (arith, nat_tests) in (record { some = positive; ends = omega arith; filled = λ o e. let same : p.p_offset ≡ o = cc in omega arith }, tt)
      | false ↦ λ t. tt
    ] refl

rest_is : (b : List ℕ) (p : ProgramHeader) → p.p_vaddr + p.p_memsz ≤ 4294967296 → AllByRecursion (IsRegion b) (rest_of p)
rest_is b p ends =
    elim (nat_lt p.p_filesz p.p_memsz) as (λ t. nat_lt p.p_filesz p.p_memsz ≡ t → AllByRecursion (IsRegion b) (cond t (record { start = p.p_vaddr + p.p_filesz; len = p.p_memsz - p.p_filesz; perm = perm_of p.p_flags; offset = None } ∷ []) [])) [
      | true ↦ λ t. let more : p.p_filesz < p.p_memsz = grind (arith, nat_tests) in (record { some = omega arith; ends = omega arith; filled = λ o e. absurd (cc) }, tt)
      | false ↦ λ t. tt
    ] refl

load_is : (b : List ℕ) (i : ℕ) (p : ProgramHeader) (rs : List Region) → load_at b i p ≡ Ok rs → AllByRecursion (IsRegion b) rs
unfolding load_at range_of
load_is b i p rs e =
    elim (is_load p) as (λ t. cond t (range_of b i p >> Ok (regions_of p)) (Ok []) ≡ Ok rs → AllByRecursion (IsRegion b) rs) [
      | true ↦ λ e.
          let passed = bind_ok (range_of b i p) (λ _. Ok (regions_of p)) rs e in
          let tests = both_passed _ _ _ _ _ passed.1 in
          let range = and_parts (nat_le p.p_filesz p.p_memsz) (nat_le (p.p_vaddr + p.p_memsz) 4294967296) tests.0 in
          let le : p.p_filesz ≤ p.p_memsz = grind (arith, nat_tests, range.0) in
          let ends : p.p_vaddr + p.p_memsz ≤ 4294967296 = grind (arith, nat_tests, range.1) in
          let whole : p.p_offset + p.p_filesz ≤ length b = grind (arith, nat_tests, tests.1) in
          let same : regions_of p ≡ rs = cc in
          subst (AllByRecursion (IsRegion b)) same (All-append (IsRegion b) (filled_of p) (rest_of p) (filled_is b p le ends whole) (rest_is b p ends))
      | false ↦ λ e. let same : [] ≡ rs = cc in subst (AllByRecursion (IsRegion b)) same tt
    ] e

All-placed : (P : Region → Type 0) (r : Region) (ss : List Region) → P r → AllByRecursion P ss → AllByRecursion P (placed_by_start r ss)
All-placed P r [] p all = (p, tt)
All-placed P r (s ∷ ss) p all =
    elim (nat_le r.start s.start) as (λ t. AllByRecursion P (cond t (r ∷ s ∷ ss) (s ∷ placed_by_start r ss))) [ true ↦ (p, all) | false ↦ (all.0, All-placed P r ss p all.1) ]

All-by_start : (P : Region → Type 0) (rs : List Region) → AllByRecursion P rs → AllByRecursion P (by_start rs)
All-by_start P [] all = tt
All-by_start P (r ∷ rs) all = All-placed P r (by_start rs) all.0 (All-by_start P rs all.1)

loads_are : (b : List ℕ) (h : Header) (rs : List Region) → loads_of b h ≡ Ok rs → AllByRecursion (IsRegion b) rs
unfolding loads_of
loads_are b h rs e =
    let table = bind_ok (program_table_of b h) (λ _. in_turn (load_step b h) h.e_phnum) rs e in
    all_in_turn (IsRegion b) (load_step b h) (λ i xs s. load_is b i (program_header_at b (h.e_phoff + 32 * i)) xs s) h.e_phnum rs table.2

memory_parts : (b : List ℕ) (h : Header) (rs : List Region) → memory_of b h ≡ Ok rs → AllByRecursion (IsRegion b) rs × (apart rs ≡ Ok tt)
unfolding memory_of
memory_parts b h rs e =
    let loads = bind_ok (loads_of b h) (λ regions. within_limits regions >> (apart (by_start regions) >> Ok (by_start regions))) rs e in
    let limits = bind_ok (within_limits loads.0) (λ _. apart (by_start loads.0) >> Ok (by_start loads.0)) rs loads.2 in
    let none = bind_ok (apart (by_start loads.0)) (λ _. Ok (by_start loads.0)) rs limits.2 in
    let same : by_start loads.0 ≡ rs = cc in
    (subst (AllByRecursion (IsRegion b)) same (All-by_start (IsRegion b) loads.0 (loads_are b h loads.0 loads.1)), ap apart (sym same) ∙ none.1)

pub memory_regions : (b : List ℕ) (h : Header) (rs : List Region) → memory_of b h ≡ Ok rs → AllByRecursion (IsRegion b) rs
memory_regions b h rs e = (memory_parts b h rs e).0

pub memory_apart : (b : List ℕ) (h : Header) (rs : List Region) → memory_of b h ≡ Ok rs → apart rs ≡ Ok tt
memory_apart b h rs e = (memory_parts b h rs e).1
