-- A block that meets no other one may be put into a valid program: `valid_new_block`.
use Rattle.std.proofs.Common.{◌≡◌, ℕ, ◌+◌, ◌<◌, ◌≤◌, Bool, true, false, cond, ◌&&◌, Option, Some, None, refl, sym, ap, ◌∙◌, subst, inl, inr, arith}
use Rattle.std.specs.Prelude.{nat_lt, nat_le}
use Rattle.std.specs.Option.{option_map, option_and_then}
use Rattle.std.specs.Int.{from_le_bytes, w32}
use Rattle.std.proofs.lemmas.Bool.{and_from, and_parts, both_ways, cases_lt, false_from_ne_true, leb-true, lt-ltb, ltb-true}
use Rattle.std.proofs.lemmas.Bool.Decides.{nat_tests}
use Rattle.std.proofs.lemmas.Option.{same_Some}
use Rattle.rvd_fact.specs.declared.keys.Key.{Key}
use Rattle.rvd_fact.specs.declared.keys.Kind.TheVariants as kind
use Rattle.rvd_fact.specs.declared.cells.Cell.{Cell}
use Rattle.rvd_fact.specs.declared.values.Perm.{Perm}
use Rattle.rvd_fact.specs.declared.values.Source.{Source}
use Rattle.rvd_fact.specs.declared.values.Value.TheVariants.{Block, Code}
use Rattle.rvd_fact.specs.Order.{rank}
use Rattle.rvd_fact.specs.Program.{Program, cell_at, placed}
use Rattle.rvd_fact.specs.Memory.{block_key, block_len, bytes_in, surrounds, unit_key, unit_len, word}
use Rattle.rvd_fact.specs.Valid.{AreApart, IsValid, block_span, span, suits, unit_span}
use Rattle.rvd_fact.proofs.KeyOrder.{cases_key}
use Rattle.rvd_fact.proofs.Placing.{Fails, first-placed}
use Rattle.rvd_fact.proofs.Programs.{cell_at-placed, in_order-placed}
use Rattle.rvd_fact.proofs.Validity.{cell_at_other, cell_at_placed}
use Rattle.rvd_program.proofs.Lengths.{some_of}
use Rattle.rvd_program.proofs.Spaces.{apart_placed}
use Rattle.rvd_edit.specs.Changes.{of_analyst}
use Rattle.rvd_edit.specs.Spaces.{first_met, meets}
use Rattle.rvd_edit.proofs.NothingMet.{free_there, met_none}

-- what has no length surrounds nothing
empty_fails : (x : ℕ) (k : Key) (o : Option Cell) → span block_len o ≡ 0 → Fails (surrounds x) k o
empty_fails x k None none = tt
empty_fails x k (Some c) none = empty k.at x (block_len c.value) none
  where
    empty : (b x n : ℕ) → n ≡ 0 → (nat_le b x && nat_lt x (b + n)) ≡ false
    empty b x n h = grind (arith, nat_tests)

module _ (S : Program) (a len : ℕ) (perm : Perm) (valid : IsValid S) (none : first_met block_len S a len ≡ None) (up : 0 < len) (own : suits (block_key a) (of_analyst (Block len perm None)) ≡ true) where
  abbrev new : Option Cell
  new = Some (of_analyst (Block len perm None))

  abbrev there : Program
  there = placed S (block_key a) new

  -- a block of the program doesn't meet the range
  apart_from : (b : ℕ) → 0 < block_span S b → a < b + block_span S b → b < a + len → ⊥
  apart_from b wide left right =
      let held = some_of block_len (cell_at S (block_key b)) wide in
      let size : block_span S b ≡ block_len held.0.value = ap (span block_len) held.1 in
      both_ways (meets block_len a len (block_key b, held.0)) (met_none block_len S valid a len none (block_key b) held.0 held.1)
      (and_from (nat_lt 0 (block_len held.0.value)) _ (lt-ltb 0 (block_len held.0.value) (omega (arith, wide, size)))
      (and_from (nat_lt a (b + block_len held.0.value)) _ (lt-ltb a (b + block_len held.0.value) (omega (arith, left, size))) (lt-ltb b (a + len) right)))

  nothing_there : block_span S a ≡ 0
  nothing_there = elim (cases_lt 0 (block_span S a)) [
    | inl wide ↦ absurd (apart_from a wide (omega (arith, wide)) (omega (arith, up)))
    | inr short ↦ omega (arith, short)
  ]

  own_is : (c : Cell) → new ≡ Some c → suits (block_key a) c ≡ true
  own_is c is = sym (ap (suits (block_key a)) (same_Some (of_analyst (Block len perm None)) c is)) ∙ own

  cells : (q : Key) (c : Cell) → cell_at there q ≡ Some c → suits q c ≡ true
  cells q c h = elim (cases_key q (block_key a)) [
    | inl same ↦ ap (λ (x : Key). suits x c) same ∙ own_is c (sym (cell_at_placed S (block_key a) new) ∙ ap (cell_at there) (sym same) ∙ h)
    | inr apart ↦ valid.cells q c (sym (cell_at-placed S (block_key a) new q ∙ ap (λ (b : Bool). cond b new (cell_at S q)) apart) ∙ h)
  ]

  other_unit : (x : ℕ) → cell_at there (unit_key x) ≡ cell_at S (unit_key x)
  other_unit x = cell_at_other S (block_key a) new (unit_key x) (λ e. let r : rank (unit_key x).kind ≡ rank (block_key a).kind = ap (λ (q : Key). rank q.kind) e in omega (arith, r))

  same_units : unit_span there ≡ unit_span S
  same_units = λ i x. span unit_len (other_unit x i)

  -- a block of the program stays
  same_block : (b : ℕ) → 0 < block_span S b → block_span there b ≡ block_span S b
  same_block b wide = ap (span block_len) (cell_at_other S (block_key a) new (block_key b) (λ e.
      let at : b ≡ a = ap (λ (q : Key). q.at) e in
      let gone : block_span S b ≡ 0 = ap (block_span S) at ∙ nothing_there in
      omega (arith, wide, gone)))

  stays_in : (x n : ℕ) → 0 < n → (b : ℕ) × (b ≤ x) × (x + n ≤ b + block_span S b) → (b : ℕ) × (b ≤ x) × (x + n ≤ b + block_span there b)
  stays_in x n some home =
      let wide : 0 < block_span S home.0 = omega (arith, some, home.1, home.2) in
      (home.0, home.1, omega (arith, home.2, same_block home.0 wide))

  in_a_block : (x : ℕ) → 0 < unit_span there x → (b : ℕ) × (b ≤ x) × (x + unit_span there x ≤ b + block_span there b)
  in_a_block x some =
      subst (λ (u : ℕ → ℕ). 0 < u x → (b : ℕ) × (b ≤ x) × (x + u x ≤ b + block_span there b)) (sym same_units) (λ some. stays_in x (unit_span S x) some (valid.in_a_block x some)) some

  -- the new block isn't around a unit
  not_around : (x : ℕ) → 0 < unit_span S x → (nat_le a x && nat_lt x (a + len)) ≡ false
  not_around x some = false_from_ne_true (nat_le a x && nat_lt x (a + len)) (λ h.
      let p = and_parts (nat_le a x) (nat_lt x (a + len)) h in
      let low : a ≤ x = leb-true a x p.0 in
      let high : x < a + len = ltb-true x (a + len) p.1 in
      let home = valid.in_a_block x some in
      apart_from home.0 (omega (arith, some, home.1, home.2)) (omega (arith, low, some, home.2)) (omega (arith, high, home.1)))

  same_word : (x : ℕ) → 0 < unit_span S x → word there x ≡ word S x
  same_word x some =
      ap (λ (e : Option (Key × Cell)). option_map (from_le_bytes w32) (option_and_then (λ (y : Key × Cell). bytes_in y.0.at x 4 y.1.value) e))
      (first-placed (surrounds x) S (block_key a) new valid.in_order (empty_fails x (block_key a) (cell_at S (block_key a)) nothing_there) (not_around x some))

  words : (x w : ℕ) (s : Source) → cell_at there (unit_key x) ≡ Some (record { value = Code w; source = s }) → word there x ≡ Some w
  words x w s h =
      let here : cell_at S (unit_key x) ≡ Some (record { value = Code w; source = s }) = sym (other_unit x) ∙ h in
      let four : unit_span S x ≡ 4 = ap (span unit_len) here in
      same_word x (omega (arith, four)) ∙ valid.words x w s here

  pub valid_new_block : IsValid there
  valid_new_block = record {
    in_order = in_order-placed S (block_key a) new valid.in_order;
    cells = cells;
    blocks_apart = apart_placed block_len kind.Block S (block_key a) new valid.blocks_apart (free_there block_len S valid a len none (block_key a) new refl);
    units_apart = subst AreApart (sym same_units) valid.units_apart;
    in_a_block = in_a_block;
    words = words;
  }
