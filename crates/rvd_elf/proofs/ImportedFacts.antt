-- The facts of an import make a valid program. Use `import_fits` for its changes in turn, and `import_rises` for
-- the order of their keys.
use Rattle.std.proofs.Common.{◌≡◌, ℕ, suc, ◌+◌, ◌<◌, ◌≤◌, Bool, true, false, cond, ◌&&◌, ◌==◌, ◌%◌, nat_lt, nat_le, ◌⊎◌, List, [], ◌∷◌, ◌++◌, length, take, drop, map, Option, Some, None, Ok, Err, refl, sym, ap, ◌∙◌, subst, inl, inr, arith, length-take, length-drop, get_or-drop}
use Rattle.std.specs.Option.{option_map}
use Rattle.std.specs.List.{AllByRecursion}
use Rattle.std.proofs.lemmas.Bool.{and_parts, cases_lt, or_cases}
use Rattle.std.proofs.lemmas.Bool.Decides.{nat_tests}
use Rattle.std.proofs.lemmas.List.{get_or-take, get_or_past}
use Rattle.rvd_fact.specs.declared.keys.Key.{Key}
use Rattle.rvd_fact.specs.declared.keys.Kind.TheVariants as kind
use Rattle.rvd_fact.specs.declared.cells.Cell.{Cell}
use Rattle.rvd_fact.specs.declared.cells.Change.{Change}
use Rattle.rvd_fact.specs.declared.values.Value.TheVariants.{Mark as MarkValue, Func as FuncValue}
use Rattle.std.specs.List.Sorted.{IsStrictlySortedBy}
use Rattle.rvd_fact.specs.Order.{rank, key_cmp, same_key}
use Rattle.rvd_fact.specs.Program.{Program, cell_at, placed, IsInOrder}
use Rattle.rvd_fact.specs.Memory.{key_of, block_key, unit_key, block_len}
use Rattle.rvd_fact.specs.Valid.{Fits, suits, is_whole, has_bytes, are_bytes, is_text, is_address, block_span, span}
use Rattle.rvd_fact.proofs.KeyOrder.{cases_key, same_key_itself}
use Rattle.rvd_fact.proofs.Programs.{cell_at-placed, in_order-placed}
use Rattle.rvd_elf.specs.declared.header.Header.{Header}
use Rattle.rvd_elf.specs.declared.segment.Region.{Region}
use Rattle.rvd_elf.specs.declared.symbol.Symbol.{Symbol}
use Rattle.rvd_elf.specs.declared.refusals.ElfError.TheVariants.{Overlap}
use Rattle.rvd_elf.specs.Steps.{◌>>=◌}
use Rattle.rvd_elf.specs.Header.{header_of}
use Rattle.rvd_elf.specs.Segment.{IsRegion, apart, memory_of}
use Rattle.rvd_elf.specs.Symbol.{IsNamed, symbols_of}
use Rattle.rvd_elf.specs.Facts.{block_fact, bytes_of, changes_of, facts_of, func_facts, imported, in_block, mark_facts, may_begin, name_bytes, name_fact, number_at, slot_facts, symbol_facts, with_facts}
use Rattle.rvd_elf.specs.Import.{import_of}
use Rattle.rvd_elf.proofs.StepLemmas.{bind_ok, All-append}
use Rattle.rvd_elf.proofs.Memory.{memory_regions, memory_apart}
use Rattle.rvd_elf.proofs.NamedSymbols.{IsBytes, symbols_named}
use Rattle.rvd_elf.proofs.Fitting.{IsPlain, cases_cell, fits_plain, rising_keys}

-- ---- regions that are apart

abbrev IsMember : Region → List Region → Type 0
IsMember r [] = ⊥
IsMember r (s ∷ rs) = (r ≡ s) ⊎ IsMember r rs

step_apart : (r s : Region) (rs : List Region) → apart (r ∷ s ∷ rs) ≡ Ok tt → (r.start + r.len ≤ s.start) × (apart (s ∷ rs) ≡ Ok tt)
step_apart r s rs e =
    elim (nat_lt s.start (r.start + r.len)) as (λ t. nat_lt s.start (r.start + r.len) ≡ t → cond t (Err (Overlap r.start s.start)) (apart (s ∷ rs)) ≡ Ok tt → (r.start + r.len ≤ s.start) × (apart (s ∷ rs) ≡ Ok tt)) [
      | true ↦ λ t e. absurd (cc)
      | false ↦ λ t e. (grind (arith, nat_tests), e)
    ] refl e

-- a region ends before all behind it
ahead : (r : Region) (rs : List Region) (s : Region) → apart (r ∷ rs) ≡ Ok tt → IsMember s rs → r.start + r.len ≤ s.start
ahead r [] s e m = absurd m
ahead r (x ∷ rs) s e m =
    let next = step_apart r x rs e in
    elim m [
      | inl here ↦ let same : s.start ≡ x.start = ap (λ (y : Region). y.start) here in omega (arith, next.0, same)
      | inr later ↦ omega (arith, next.0, ahead x rs s next.1 later)
    ]

tail_apart : (r : Region) (rs : List Region) → apart (r ∷ rs) ≡ Ok tt → apart rs ≡ Ok tt
tail_apart r [] e = refl
tail_apart r (s ∷ rs) e = (step_apart r s rs e).1

pairs_apart : (rs : List Region) (r s : Region) → apart rs ≡ Ok tt → IsMember r rs → IsMember s rs → r.start < s.start → r.start + r.len ≤ s.start
pairs_apart [] r s e m n lt = absurd m
pairs_apart (x ∷ rs) r s e m n lt =
    elim m [
      | inl r_here ↦ elim n [
        | inl s_here ↦ absurd (let a : r.start ≡ x.start = ap (λ (y : Region). y.start) r_here in let b : s.start ≡ x.start = ap (λ (y : Region). y.start) s_here in omega (arith, lt, a, b))
        | inr s_later ↦ subst (λ (y : Region). y.start + y.len ≤ s.start) (sym r_here) (ahead x rs s e s_later)
      ]
      | inr r_later ↦ elim n [
        | inl s_here ↦ absurd (let b : s.start ≡ x.start = ap (λ (y : Region). y.start) s_here in let before = ahead x rs r e r_later in omega (arith, lt, b, before))
        | inr s_later ↦ pairs_apart rs r s (tail_apart x rs e) r_later s_later lt
      ]
    ]

-- ---- facts that may stand

-- a fact that an import makes: its cell suits its key, and it is a block of one of the regions or neither a block
-- nor a unit
record IsImported (rs : List Region) (k : Key) (c : Cell) : Type 0 where
  fits : suits k c ≡ true
  no_unit : rank k.kind ≡ 7 → ⊥
  region : rank k.kind ≡ 0 → (r : Region) × IsMember r rs × (k.at ≡ r.start) × (block_len c.value ≡ r.len)

abbrev AreImported : List Region → List (Key × Cell) → Type 0
AreImported rs fs = AllByRecursion (λ f. IsImported rs f.0 f.1) fs

both : (s t : Bool) → s ≡ true → t ≡ true → (s && t) ≡ true
both true true p q = refl
both true false p q = q
both false t p q = p

address : (a : ℕ) → a < 4294967296 → is_address a ≡ true
address a lt = grind (arith, nat_tests)

bytes-take : (n : ℕ) (b : List ℕ) → IsBytes b → IsBytes (take n b)
bytes-take n b h i =
    elim (cases_lt i n) [
      | inl lt ↦ rw (get_or-take n b i 0 lt) (h i)
      | inr le ↦ rw (get_or_past (take n b) i 0 (omega (arith, length-take n b))) (omega arith)
    ]

bytes-drop : (n : ℕ) (b : List ℕ) → IsBytes b → IsBytes (drop n b)
bytes-drop n b h i = rw get_or-drop (h (n + i))

are_bytes-from : (b : List ℕ) → IsBytes b → are_bytes b ≡ true
are_bytes-from [] h = refl
are_bytes-from (x ∷ b) h = both (nat_lt x 256) (are_bytes b) (let lt : x < 256 = h 0 in grind (arith, nat_tests)) (are_bytes-from b (λ i. h (suc i)))

part_bytes : (b : List ℕ) (n at : ℕ) → IsBytes b → are_bytes (take n (drop at b)) ≡ true
part_bytes b n at h = are_bytes-from (take n (drop at b)) (bytes-take n (drop at b) (bytes-drop at b h))

equal_test : (m n : ℕ) → m ≡ n → (m == n) ≡ true
equal_test m n e = grind (arith, nat_tests)

le_test : (m n : ℕ) → m ≤ n → nat_le m n ≡ true
le_test m n h = grind (arith, nat_tests)

lt_test : (m n : ℕ) → m < n → nat_lt m n ≡ true
lt_test m n h = grind (arith, nat_tests)

block_bytes : (b : List ℕ) (r : Region) (o : Option ℕ) → IsBytes b → r.offset ≡ o → IsRegion b r → has_bytes r.len (bytes_of b r) ≡ true
block_bytes b r None bytes e is = ap (λ (o : Option ℕ). has_bytes r.len (option_map (λ o. take r.len (drop o b)) o)) e
block_bytes b r (Some o) bytes e is =
    ap (λ (o : Option ℕ). has_bytes r.len (option_map (λ o. take r.len (drop o b)) o)) e
    ∙ both (length (take r.len (drop o b)) == r.len) (are_bytes (take r.len (drop o b)))
    (equal_test _ _ (let inside : o + r.len ≤ length b = is.filled o e in omega (arith, length-take r.len (drop o b), length-drop o b, inside)))
    (part_bytes b r.len o bytes)

block_is : (b : List ℕ) (rs : List Region) (r : Region) → IsBytes b → IsMember r rs → IsRegion b r → IsImported rs (block_fact b r).0 (block_fact b r).1
block_is b rs r bytes member is = record {
  fits = both (is_address r.start) _ (address r.start (omega (arith, is.some, is.ends)))
      (both (is_whole r.start (block_fact b r).1.value) true
      (both (nat_lt 0 r.len) _ (lt_test 0 r.len is.some) (both (nat_le (r.start + r.len) 4294967296) _ (le_test _ _ is.ends) (block_bytes b r r.offset bytes refl is))) refl);
  no_unit = λ e. absurd (omega (arith, e));
  region = λ _. (r, member, refl, refl);
}

blocks_are : (b : List ℕ) (rs all : List Region) → IsBytes b → ((r : Region) → IsMember r rs → IsMember r all) → AllByRecursion (IsRegion b) rs → AreImported all (map (block_fact b) rs)
blocks_are b [] all bytes among each = tt
blocks_are b (r ∷ rs) all bytes among each = (block_is b all r bytes (among r (inl refl)) each.0, blocks_are b rs all bytes (λ s m. among s (inr m)) each.1)

-- an address in a block is one
in_block_address : (b : List ℕ) (rs : List Region) (a : ℕ) → AllByRecursion (IsRegion b) rs → in_block rs a ≡ true → a < 4294967296
in_block_address b [] a each e = absurd (cc)
in_block_address b (r ∷ rs) a each e =
    elim (or_cases (nat_le r.start a && nat_lt a (r.start + r.len)) (in_block rs a) e) [
      | inl here ↦
          let parts = and_parts (nat_le r.start a) (nat_lt a (r.start + r.len)) here in
          let lt : a < r.start + r.len = grind (arith, nat_tests, parts.1) in
          omega (arith, lt, each.0.ends)
      | inr later ↦ in_block_address b rs a each.1 later
    ]

mark_is : (b : List ℕ) (h : Header) (rs : List Region) → AllByRecursion (IsRegion b) rs → AreImported rs (mark_facts rs h)
mark_is b h rs each =
    elim (may_begin rs h.e_entry) as (λ t. may_begin rs h.e_entry ≡ t → AreImported rs (cond t ((key_of kind.Mark h.e_entry, imported MarkValue) ∷ []) [])) [
      | true ↦ λ t.
          let inside = (and_parts (h.e_entry % 4 == 0) (in_block rs h.e_entry) t).1 in
          (record { fits = both (is_address h.e_entry) _ (address h.e_entry (in_block_address b rs h.e_entry each inside)) refl; no_unit = λ e. absurd (omega (arith, e)); region = λ e. absurd (omega (arith, e)) }, tt)
      | false ↦ λ t. tt
    ] refl

func_is : (b : List ℕ) (rs : List Region) (s : Symbol) → AllByRecursion (IsRegion b) rs → AreImported rs (func_facts rs s)
func_is b rs s each =
    elim (s.is_function && may_begin rs s.value) as (λ t. (s.is_function && may_begin rs s.value) ≡ t → AreImported rs (cond t ((key_of kind.Func s.value, imported FuncValue) ∷ []) [])) [
      | true ↦ λ t.
          let begins = (and_parts s.is_function (may_begin rs s.value) t).1 in
          let inside = (and_parts (s.value % 4 == 0) (in_block rs s.value) begins).1 in
          (record { fits = both (is_address s.value) _ (address s.value (in_block_address b rs s.value each inside)) refl; no_unit = λ e. absurd (omega (arith, e)); region = λ e. absurd (omega (arith, e)) }, tt)
      | false ↦ λ t. tt
    ] refl

name_is : (b : List ℕ) (rs : List Region) (slot : ℕ) (s : Symbol) → IsBytes b → slot < 64 → IsNamed b s → IsImported rs (name_fact b slot s).0 (name_fact b slot s).1
name_is b rs slot s bytes lt is = record {
  fits = both (is_address s.value) _ (address s.value is.address)
      (both (nat_le slot 63) _ (le_test slot 63 (omega (arith, lt)))
      (both (is_text (name_bytes b s)) true (both (nat_le (length (name_bytes b s)) 1000) _ (le_test _ _ (omega (arith, length-take s.name_len (drop s.name_at b), is.short))) (part_bytes b s.name_len s.name_at bytes)) refl));
  no_unit = λ e. absurd (omega (arith, e));
  region = λ e. absurd (omega (arith, e));
}

slot_are : (b : List ℕ) (rs : List Region) (slot : ℕ) (s : Symbol) → IsBytes b → AllByRecursion (IsRegion b) rs → IsNamed b s → AreImported rs (slot_facts b rs slot s)
slot_are b rs slot s bytes each is =
    elim (nat_lt slot 64) as (λ t. nat_lt slot 64 ≡ t → AreImported rs (cond t (name_fact b slot s ∷ func_facts rs s) [])) [
      | true ↦ λ t. let lt : slot < 64 = grind (arith, nat_tests) in (name_is b rs slot s bytes lt is, func_is b rs s each)
      | false ↦ λ t. tt
    ] refl

symbols_are : (b : List ℕ) (rs : List Region) (before ss : List Symbol) → IsBytes b → AllByRecursion (IsRegion b) rs → AllByRecursion (IsNamed b) ss → AreImported rs (symbol_facts b rs before ss)
symbols_are b rs before [] bytes each named = tt
symbols_are b rs before (s ∷ ss) bytes each named =
    All-append (λ (f : Key × Cell). IsImported rs f.0 f.1) (slot_facts b rs (number_at s.value before) s) (symbol_facts b rs (before ++ s ∷ []) ss)
    (slot_are b rs (number_at s.value before) s bytes each named.0) (symbols_are b rs (before ++ s ∷ []) ss bytes each named.1)

facts_are : (b : List ℕ) (h : Header) (rs : List Region) (ss : List Symbol) → IsBytes b → AllByRecursion (IsRegion b) rs → AllByRecursion (IsNamed b) ss → AreImported rs (facts_of b h rs ss)
facts_are b h rs ss bytes each named =
    let P : Key × Cell → Type 0 = λ f. IsImported rs f.0 f.1 in
    All-append P (map (block_fact b) rs) (mark_facts rs h ++ symbol_facts b rs [] ss) (blocks_are b rs rs bytes (λ r m. m) each)
    (All-append P (mark_facts rs h) (symbol_facts b rs [] ss) (mark_is b h rs each) (symbols_are b rs [] ss bytes each named))

-- ---- the program of the facts

in_order-with_facts : (S : Program) (fs : List (Key × Cell)) → IsInOrder S → IsInOrder (with_facts S fs)
in_order-with_facts S [] h = h
in_order-with_facts S (f ∷ fs) h = in_order-with_facts (placed S f.0 (Some f.1)) fs (in_order-placed S f.0 (Some f.1) h)

-- what holds of the cells before and of each fact holds of the cells after
all_cells : (P : Key → Cell → Type 0) (S : Program) (fs : List (Key × Cell)) → ((k : Key) (c : Cell) → cell_at S k ≡ Some c → P k c) → AllByRecursion (λ f. P f.0 f.1) fs
    → (k : Key) (c : Cell) → cell_at (with_facts S fs) k ≡ Some c → P k c
all_cells P S [] before each k c e = before k c e
all_cells P S (f ∷ fs) before each k c e =
    all_cells P (placed S f.0 (Some f.1)) fs (λ q d h. elim (cases_key q f.0) [
      | inl same ↦
          let here : Some f.1 ≡ Some d = sym (cell_at-placed S f.0 (Some f.1) q ∙ ap (λ (t : Bool). cond t (Some f.1) (cell_at S q)) (ap (λ (x : Key). same_key x f.0) same ∙ same_key_itself f.0)) ∙ h in
          let value : f.1 ≡ d = cc in
          subst (λ (x : Cell). P q x) value (subst (λ (x : Key). P x f.1) (sym same) each.0)
      | inr other ↦ before q d (sym (cell_at-placed S f.0 (Some f.1) q ∙ ap (λ (t : Bool). cond t (Some f.1) (cell_at S q)) other) ∙ h)
    ]) each.1 k c e

module _ (S : Program) (rs : List Region) (order : IsInOrder S) (none : apart rs ≡ Ok tt) (each : (k : Key) (c : Cell) → cell_at S k ≡ Some c → IsImported rs k c) where
  -- a block is one of the regions
  block_region : (a : ℕ) → 0 < block_span S a → (r : Region) × IsMember r rs × (a ≡ r.start) × (block_span S a ≡ r.len)
  block_region a lt =
      cases_cell (cell_at S (block_key a)) (λ e. absurd (let zero : block_span S a ≡ 0 = ap (span block_len) e in omega arith))
      (λ c e. let found = (each (block_key a) c e).region refl in (found.0, found.1, found.2, ap (span block_len) e ∙ found.3))

  facts_plain : IsPlain S
  facts_plain = record {
    in_order = order;
    cells = λ k c e. (each k c e).fits;
    blocks_apart = λ a b lt some_a some_b.
        let ra = block_region a some_a in
        let rb = block_region b some_b in
        let gap = pairs_apart rs ra.0 rb.0 none ra.1 rb.1 (omega (arith, lt, ra.2, rb.2)) in
        omega (arith, gap, ra.2, ra.3, rb.2);
    no_units = λ a c e. (each (unit_key a) c e).no_unit refl;
  }

nothing : (rs : List Region) (k : Key) (c : Cell) → cell_at [] k ≡ Some c → IsImported rs k c
nothing rs k c e = absurd (cc)

-- an import lists a plain program
pub import_plain : (b : List ℕ) (cs : List Change) → IsBytes b → import_of b ≡ Ok cs → (S : Program) × IsPlain S × (changes_of S ≡ cs)
unfolding import_of
import_plain b cs bytes e =
    let h = bind_ok (header_of b) (λ h. memory_of b h >>= (λ regions. symbols_of b h >>= (λ symbols. Ok (changes_of (with_facts [] (facts_of b h regions symbols)))))) cs e in
    let rs = bind_ok (memory_of b h.0) (λ regions. symbols_of b h.0 >>= (λ symbols. Ok (changes_of (with_facts [] (facts_of b h.0 regions symbols))))) cs h.2 in
    let ss = bind_ok (symbols_of b h.0) (λ symbols. Ok (changes_of (with_facts [] (facts_of b h.0 rs.0 symbols)))) cs rs.2 in
    let same : changes_of (with_facts [] (facts_of b h.0 rs.0 ss.0)) ≡ cs = cc in
    let fs = facts_of b h.0 rs.0 ss.0 in
    let are = facts_are b h.0 rs.0 ss.0 bytes (memory_regions b h.0 rs.0 rs.1) (symbols_named b h.0 ss.0 bytes ss.1) in
    (with_facts [] fs, facts_plain (with_facts [] fs) rs.0 (in_order-with_facts [] fs tt) (memory_apart b h.0 rs.0 rs.1) (all_cells (IsImported rs.0) [] fs (nothing rs.0) are), same)

-- the changes of an import fit in turn on the empty program
pub import_fits : (b : List ℕ) (cs : List Change) → IsBytes b → import_of b ≡ Ok cs → Fits [] cs
import_fits b cs bytes e = let p = import_plain b cs bytes e in subst (Fits []) p.2 (fits_plain p.0 p.1)

-- the keys of an import strictly rise
pub import_rises : (b : List ℕ) (cs : List Change) → IsBytes b → import_of b ≡ Ok cs → IsStrictlySortedBy key_cmp (map (λ (c : Change). c.key) cs)
import_rises b cs bytes e =
    let p = import_plain b cs bytes e in
    subst (λ (ds : List Change). IsStrictlySortedBy key_cmp (map (λ (c : Change). c.key) ds)) p.2 (rising_keys p.0 p.1.in_order)
