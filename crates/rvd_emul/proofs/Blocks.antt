-- The block around an address: `around_cell` says that it is the cell that stands at its start, and `own_byte-along` that it is
-- the block of each byte that lies in it.
use Rattle.std.proofs.Common.{◌≡◌, ℕ, ◌+◌, ◌<◌, ◌≤◌, true, false, ◌&&◌, List, Option, Some, None, refl, sym, ap, ◌∙◌, subst, inl, inr, arith}
use Rattle.std.specs.Prelude.{nat_lt, nat_le, find as first_where, slice_index, unwrap_or, MatchOption}
use Rattle.std.specs.Option.{option_map, option_map_or, option_and_then}
use Rattle.std.proofs.lemmas.Bool.{and_from, and_parts, cases_order, le-leb, leb-true, lt-ltb, ltb-true}
use Rattle.std.proofs.lemmas.Option.{none-some, same_Some}
use Rattle.rvd_fact.specs.declared.keys.Key.{Key}
use Rattle.rvd_fact.specs.declared.cells.Cell.{Cell}
use Rattle.rvd_fact.specs.declared.values.Value.{Value}
use Rattle.rvd_fact.specs.declared.values.Value.TheVariants.{Block}
use Rattle.rvd_fact.specs.Program.{Program, cell_at}
use Rattle.rvd_fact.specs.Memory.{block, block_key, block_len, byte_at, bytes_in, surrounds}
use Rattle.rvd_fact.specs.Valid.{IsValid, block_span, has_bytes, is_whole, span}
use Rattle.rvd_fact.proofs.Suiting.{whole_there}
use Rattle.rvd_program.proofs.FirstFound.{IsFirst, NonePasses, first_is, found_first}
use Rattle.rvd_program.proofs.Lengths.{block_at_key}
use Rattle.rvd_emul.specs.Machine.{around, lies_in, located, memory_byte, newest, own_byte}

-- a block ends by 2^32
ends_within : (x : ℕ) (v : Value) → is_whole x v ≡ true → 0 < block_len v → x + block_len v ≤ 4294967296
ends_within x (Block len perm bytes) whole up =
    let parts = and_parts (nat_lt 0 len) (nat_le (x + len) 4294967296 && has_bytes len bytes) whole in
    leb-true (x + len) 4294967296 (and_parts (nat_le (x + len) 4294967296) (has_bytes len bytes) parts.1).0
ends_within x v whole up = absurd (omega (arith, up))

-- around no address where no block is
none_of : (o : Option (Key × Cell)) → option_map (λ (e : Key × Cell). e.0.at) o ≡ None → option_map located o ≡ None
none_of None e = refl
none_of (Some x) e = absurd (none-some x.0.at (sym e))

pub around_none : (S : Program) (a : ℕ) → block S a ≡ None → around S a ≡ None
around_none S a h = none_of (first_where (surrounds a) S) h

module _ (S : Program) (valid : IsValid S) where
  -- a cell is the block at an address that has a byte
  pub record IsAround (a x : ℕ) (c : Cell) : Type 0 where
    pub here : cell_at S (block_key x) ≡ Some c
    pub low : x ≤ a
    pub high : a < x + block_len c.value

  -- whatever has a byte is such a block
  having : (a : ℕ) (q : Key) (c : Cell) → cell_at S q ≡ Some c → surrounds a (q, c) ≡ true → (q ≡ block_key q.at) × IsAround a q.at c
  having a q c here passes =
      let p = and_parts (nat_le q.at a) (nat_lt a (q.at + block_len c.value)) passes in
      let low : q.at ≤ a = leb-true q.at a p.0 in
      let high : a < q.at + block_len c.value = ltb-true a (q.at + block_len c.value) p.1 in
      let key : q ≡ block_key q.at = block_at_key q c (valid.cells q c here) (omega (arith, low, high)) in
      (key, record { here = ap (cell_at S) (sym key) ∙ here; low = low; high = high })

  its_span : (a x : ℕ) (c : Cell) → IsAround a x c → block_span S x ≡ block_len c.value
  its_span a x c at = ap (span block_len) at.here

  -- only one block has it
  one_start : (a x y : ℕ) (c d : Cell) → IsAround a x c → IsAround a y d → x ≡ y
  one_start a x y c d at other =
      let size : block_span S x ≡ block_len c.value = its_span a x c at in
      let its : block_span S y ≡ block_len d.value = its_span a y d other in
      elim (cases_order x y) [
        | inl same ↦ same
        | inr (inl less) ↦
            let gap : x + block_span S x ≤ y = valid.blocks_apart x y less (omega (arith, size, at.low, at.high)) (omega (arith, its, other.low, other.high)) in
            absurd (omega (arith, gap, size, at.high, other.low))
        | inr (inr more) ↦
            let gap : y + block_span S y ≤ x = valid.blocks_apart y x more (omega (arith, its, other.low, other.high)) (omega (arith, size, at.low, at.high)) in
            absurd (omega (arith, gap, its, other.high, at.low))
      ]

  -- and a search finds it
  pub block_there : (a x : ℕ) (c : Cell) → IsAround a x c → first_where (surrounds a) S ≡ Some (block_key x, c)
  block_there a x c at =
      first_is (surrounds a) S valid.in_order (block_key x) c at.here
      (and_from (nat_le x a) _ (le-leb x a at.low) (lt-ltb a (x + block_len c.value) at.high))
      (λ q d here passes.
      let h = having a q d here passes in
      h.0 ∙ ap block_key (one_start a q.at x d c h.1 at))

  -- a block that is found
  record Found (a x : ℕ) (v : Value) : Type 0 where
    cell : Cell
    value : cell.value ≡ v
    at : IsAround a x cell

  entry_found : (a : ℕ) (o : Option (Key × Cell)) → MatchOption o (NonePasses (surrounds a) S) (IsFirst (surrounds a) S) → (x : ℕ) (v : Value) → option_map located o ≡ Some (x, v) → Found a x v
  entry_found a None none x v h = absurd (none-some (x, v) h)
  entry_found a (Some e) first x v h =
      let pair : (e.0.at, e.1.value) ≡ (x, v) = same_Some (e.0.at, e.1.value) (x, v) h in
      let own = having a e.0 e.1 first.here first.passes in
      record {
        cell = e.1;
        value = ap (λ (p : ℕ × Value). p.1) pair;
        at = subst (λ (y : ℕ). IsAround a y e.1) (ap (λ (p : ℕ × Value). p.0) pair) own.1;
      }

  around_found : (a x : ℕ) (v : Value) → around S a ≡ Some (x, v) → Found a x v
  around_found a x v h = entry_found a (first_where (surrounds a) S) (found_first (surrounds a) S valid.in_order) x v h

  -- the block around an address is the cell at its start
  pub record IsBlock (a x : ℕ) : Type 0 where
    pub cell : Cell
    pub here : cell_at S (block_key x) ≡ Some cell
    pub around_is : around S a ≡ Some (x, cell.value)
    pub below : x ≤ a
    pub within : x + block_len cell.value ≤ 4294967296

  block_of : (a x : ℕ) (c : Cell) → IsAround a x c → IsBlock a x
  block_of a x c at = record {
    cell = c;
    here = at.here;
    around_is = ap (option_map located) (block_there a x c at);
    below = at.low;
    within = ends_within x c.value (whole_there (block_key x) c (valid.cells (block_key x) c at.here)) (let low = at.low in let high = at.high in omega (arith, low, high));
  }

  start_found : (a : ℕ) (o : Option (Key × Cell)) → MatchOption o (NonePasses (surrounds a) S) (IsFirst (surrounds a) S) → (x : ℕ) → option_map (λ (e : Key × Cell). e.0.at) o ≡ Some x → IsBlock a x
  start_found a None none x h = absurd (none-some x h)
  start_found a (Some e) first x h =
      let own = having a e.0 e.1 first.here first.passes in
      subst (IsBlock a) (same_Some e.0.at x h) (block_of a e.0.at e.1 own.1)

  pub around_cell : (a x : ℕ) → block S a ≡ Some x → IsBlock a x
  around_cell a x h = start_found a (first_where (surrounds a) S) (found_first (surrounds a) S valid.in_order) x h

  pub around_is : (a x : ℕ) (c : Cell) → block S a ≡ Some x → cell_at S (block_key x) ≡ Some c → around S a ≡ Some (x, c.value)
  around_is a x c h here =
      let b = around_cell a x h in
      let same : b.cell ≡ c = same_Some b.cell c (sym b.here ∙ here) in
      b.around_is ∙ ap (λ (d : Cell). Some (x, d.value)) same

  pub around_within : (a x : ℕ) (c : Cell) → block S a ≡ Some x → cell_at S (block_key x) ≡ Some c → x + block_len c.value ≤ 4294967296
  around_within a x c h here =
      let b = around_cell a x h in
      subst (λ (d : Cell). x + block_len d.value ≤ 4294967296) (same_Some b.cell c (sym b.here ∙ here)) b.within

  -- each byte of an access is the block's own
  pub own_byte-along : (a n x : ℕ) (v : Value) → around S a ≡ Some (x, v) → lies_in S a n ≡ true → (b : ℕ) → a ≤ b → b < a + n → own_byte x v b ≡ unwrap_or (byte_at S b) 0
  own_byte-along a n x v around_is lies b low high =
      let f : Found a x v = around_found a x v around_is in
      let inside : nat_le (a + n) (x + block_len v) ≡ true = sym (ap (λ o. option_map_or (λ (p : ℕ × Value). nat_le (a + n) (p.0 + block_len p.1)) o false) around_is) ∙ lies in
      let end : a + n ≤ x + block_len v = leb-true (a + n) (x + block_len v) inside in
      let size : block_len f.cell.value ≡ block_len v = ap block_len f.value in
      let start_low : x ≤ a = f.at.low in
      let at : IsAround b x f.cell = record { here = f.at.here; low = omega (arith, start_low, low); high = omega (arith, end, size, high) } in
      let there : first_where (surrounds b) S ≡ Some (block_key x, f.cell) = block_there b x f.cell at in
      ap (λ (w : Value). own_byte x w b) (sym f.value)
      ∙ ap (λ o. unwrap_or (option_map (λ bs. slice_index bs 0) (option_and_then (λ (e : Key × Cell). bytes_in e.0.at b 1 e.1.value) o)) 0) (sym there)

-- and so is each byte of memory there
pub byte-along : (S : Program) → IsValid S → (stored : List (ℕ × ℕ)) (a n x : ℕ) (v : Value) → around S a ≡ Some (x, v) → lies_in S a n ≡ true → (b r : ℕ) → a ≤ b → b < a + n → r ≡ unwrap_or (newest stored b) (own_byte x v b) → r ≡ memory_byte S stored b
byte-along S valid stored a n x v around_is lies b r low high is = is ∙ ap (unwrap_or (newest stored b)) (own_byte-along S valid a n x v around_is lies b low high)
