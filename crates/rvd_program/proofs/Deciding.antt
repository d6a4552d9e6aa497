-- The test `stays_valid` decides whether a valid program is valid with something else at a key: `valid_from` for the way
-- from the test to validity, and `stays_where_valid` for the way back.
use Rattle.std.proofs.Common.{◌≡◌, ℕ, Bool, true, false, not, cond, ◌&&◌, Option, Some, None, refl, sym, ap, ◌∙◌, subst, inl, inr}
use Rattle.std.specs.Prelude.{nat_lt, ◌==◌}
use Rattle.std.specs.List.{list_any}
use Rattle.std.specs.Option.{option_map, option_and_then}
use Rattle.std.specs.Int.{from_le_bytes, w32}
use Rattle.std.proofs.lemmas.Bool.{and_parts, and_from, both_ways, not-true, not_from_false, false_from_ne_true, and_left, ltb-true, eqb-false, cases_Bool, cond-true, cond-false}
use Rattle.rvd_fact.specs.declared.keys.Kind.TheVariants as kind
use Rattle.rvd_fact.specs.declared.keys.Key.{Key}
use Rattle.rvd_fact.specs.declared.cells.Cell.{Cell}
use Rattle.rvd_fact.specs.Order.{rank}
use Rattle.rvd_fact.specs.Program.{Program, cell_at, placed, IsInOrder}
use Rattle.rvd_fact.specs.Memory.{unit_key, unit_len, block_len, surrounds, bytes_in, word}
use Rattle.rvd_fact.specs.Valid.{IsValid, suits, span}
use Rattle.rvd_fact.proofs.KeyOrder.{cases_key}
use Rattle.rvd_fact.proofs.Scans.{Found, found, scanned}
use Rattle.rvd_fact.proofs.Programs.{cell_at-placed, in_order-placed}
use Rattle.rvd_fact.proofs.Placing.{Fails, first-placed, any-placed}
use Rattle.rvd_fact.proofs.Validity.{no_surround, cell_at_placed}
use Rattle.rvd_program.specs.Checks.{may_be, is_free, encloses, agrees, hangs, hangs_at, units_stand, stays_valid}
use Rattle.rvd_program.proofs.Lengths.{unit_at_key, block_at_key}
use Rattle.rvd_program.proofs.Spaces.{apart_placed, free_where_apart}
use Rattle.rvd_program.proofs.Standing.{Stands, in_a_block_from, words_from, stands_where_valid, none_hangs}

-- a cell of another kind than a block encloses nothing
no_enclose : (a n : ℕ) (k : Key) (o : Option Cell) → (rank k.kind ≡ 0 → ⊥) → ((c : Cell) → o ≡ Some c → suits k c ≡ true) → Fails (encloses a n) k o
no_enclose a n k None apart own = tt
no_enclose a n k (Some c) apart own = and_left (nat_lt 0 (block_len c.value)) _ (false_from_ne_true (nat_lt 0 (block_len c.value)) (λ h. apart (ap (λ (q : Key). rank q.kind) (block_at_key k c (own c refl) (ltb-true 0 (block_len c.value) h)))))

module _ (S : Program) (k : Key) (o : Option Cell) (valid : IsValid S) (own : (c : Cell) → o ≡ Some c → suits k c ≡ true) where
  in_order : IsInOrder (placed S k o)
  in_order = in_order-placed S k o valid.in_order

  cells : (q : Key) (c : Cell) → cell_at (placed S k o) q ≡ Some c → suits q c ≡ true
  cells q c h = elim (cases_key q k) [
    | inl same ↦ ap (λ (x : Key). suits x c) same ∙ own c (sym (cell_at_placed S k o) ∙ ap (cell_at (placed S k o)) (sym same) ∙ h)
    | inr apart ↦ valid.cells q c (sym (cell_at-placed S k o q ∙ ap (λ (b : Bool). cond b o (cell_at S q)) apart) ∙ h)
  ]

  -- where all units are looked at
  stands_all : list_any (hangs (placed S k o)) (placed S k o) ≡ false → Stands (placed S k o)
  stands_all none x c here = false_from_ne_true (hangs (placed S k o) (unit_key x, c)) (λ h.
      both_ways (list_any (hangs (placed S k o)) (placed S k o)) none (scanned (hangs (placed S k o)) (placed S k o) (record { key = unit_key x; cell = c; here = here; passes = h })))

  -- where blocks stay, so do the blocks and words of units
  module _ (no_block_key : rank k.kind ≡ 0 → ⊥) where
    same_enclosed : (a n : ℕ) → list_any (encloses a n) (placed S k o) ≡ list_any (encloses a n) S
    same_enclosed a n = any-placed (encloses a n) S k o valid.in_order (no_enclose a n k (cell_at S k) no_block_key (λ c h. valid.cells k c h)) (no_enclose a n k o no_block_key own)

    same_word : (a : ℕ) → word (placed S k o) a ≡ word S a
    same_word a =
        ap (λ (e : Option (Key × Cell)). option_map (from_le_bytes w32) (option_and_then (λ (x : Key × Cell). bytes_in x.0.at a 4 x.1.value) e))
        (first-placed (surrounds a) S k o valid.in_order (no_surround a k (cell_at S k) no_block_key (λ c h. valid.cells k c h)) (no_surround a k o no_block_key own))

    same_hangs : (e : Key × Cell) → hangs (placed S k o) e ≡ hangs S e
    same_hangs e =
        ap (λ (b : Bool). nat_lt 0 (unit_len e.1.value) && not (b && agrees (word (placed S k o) e.0.at) e.1.value)) (same_enclosed e.0.at (unit_len e.1.value))
        ∙ ap (λ (w : Option ℕ). nat_lt 0 (unit_len e.1.value) && not (list_any (encloses e.0.at (unit_len e.1.value)) S && agrees w e.1.value)) (same_word e.0.at)

    stands_one : hangs_at (placed S k o) k o ≡ false → Stands (placed S k o)
    stands_one none x c here = elim (cases_key (unit_key x) k) [
      | inl same ↦
          let is : o ≡ Some c = sym (cell_at_placed S k o) ∙ ap (cell_at (placed S k o)) (sym same) ∙ here in
          ap (λ (q : Key). hangs (placed S k o) (q, c)) same ∙ sym (ap (hangs_at (placed S k o) k) is) ∙ none
      | inr apart ↦
          let there : cell_at S (unit_key x) ≡ Some c = sym (cell_at-placed S k o (unit_key x) ∙ ap (λ (b : Bool). cond b o (cell_at S (unit_key x))) apart) ∙ here in
          same_hangs (unit_key x, c) ∙ stands_where_valid S valid x c there
    ]

  stands : units_stand (placed S k o) k o ≡ true → Stands (placed S k o)
  stands h = elim (cases_Bool (rank k.kind == 0)) [
    | inl block ↦ stands_all (not-true (list_any (hangs (placed S k o)) (placed S k o)) (sym (cond-true (rank k.kind == 0) _ _ block) ∙ h))
    | inr other ↦ stands_one (eqb-false (rank k.kind) 0 other) (not-true (hangs_at (placed S k o) k o) (sym (cond-false (rank k.kind == 0) _ _ other) ∙ h))
  ]

  valid_by : is_free block_len (placed S k o) k.at (span block_len o) ≡ true → is_free unit_len (placed S k o) k.at (span unit_len o) ≡ true → units_stand (placed S k o) k o ≡ true → IsValid (placed S k o)
  valid_by blocks units standing = record {
    in_order = in_order;
    cells = cells;
    blocks_apart = apart_placed block_len kind.Block S k o valid.blocks_apart blocks;
    units_apart = apart_placed unit_len kind.Unit S k o valid.units_apart units;
    in_a_block = in_a_block_from (placed S k o) in_order cells (stands standing);
    words = words_from (placed S k o) in_order cells (stands standing);
  }

own_suits : (k : Key) (o : Option Cell) → may_be k o ≡ true → (c : Cell) → o ≡ Some c → suits k c ≡ true
own_suits k o h c is = sym (ap (may_be k) is) ∙ h

-- from the test to validity
pub valid_from : (S : Program) (k : Key) (o : Option Cell) → IsValid S → stays_valid (placed S k o) k o ≡ true → IsValid (placed S k o)
valid_from S k o valid h =
    let p = and_parts (may_be k o) (is_free block_len (placed S k o) k.at (span block_len o) && (is_free unit_len (placed S k o) k.at (span unit_len o) && units_stand (placed S k o) k o)) h in
    let q = and_parts (is_free block_len (placed S k o) k.at (span block_len o)) (is_free unit_len (placed S k o) k.at (span unit_len o) && units_stand (placed S k o) k o) p.1 in
    let r = and_parts (is_free unit_len (placed S k o) k.at (span unit_len o)) (units_stand (placed S k o) k o) q.1 in
    valid_by S k o valid (own_suits k o p.0) q.0 r.0 r.1

may_be_there : (T : Program) → IsValid T → (k : Key) (o : Option Cell) → cell_at T k ≡ o → may_be k o ≡ true
may_be_there T valid k None here = refl
may_be_there T valid k (Some c) here = valid.cells k c here

none_hangs_at : (T : Program) → IsValid T → (k : Key) (o : Option Cell) → cell_at T k ≡ o → hangs_at T k o ≡ false
none_hangs_at T valid k None here = refl
none_hangs_at T valid k (Some c) here = none_hangs T valid k c here

none_hangs_in : (T : Program) → IsValid T → list_any (hangs T) T ≡ false
none_hangs_in T valid = false_from_ne_true (list_any (hangs T) T) (λ h.
    let f : Found (hangs T) T = found (hangs T) T valid.in_order h in
    both_ways (hangs T (f.key, f.cell)) (none_hangs T valid f.key f.cell f.here) f.passes)

-- from validity to the test
pub stays_where_valid : (T : Program) (k : Key) (o : Option Cell) → cell_at T k ≡ o → IsValid T → stays_valid T k o ≡ true
stays_where_valid T k o here valid =
    and_from (may_be k o) _ (may_be_there T valid k o here)
    (and_from (is_free block_len T k.at (span block_len o)) _ (subst (λ (x : Option Cell). is_free block_len T k.at (span block_len x) ≡ true) here (free_where_apart block_len kind.Block block_at_key T valid valid.blocks_apart k))
    (and_from (is_free unit_len T k.at (span unit_len o)) _ (subst (λ (x : Option Cell). is_free unit_len T k.at (span unit_len x) ≡ true) here (free_where_apart unit_len kind.Unit unit_at_key T valid valid.units_apart k))
    standing))
  where
    standing : units_stand T k o ≡ true
    standing = elim (cases_Bool (rank k.kind == 0)) [
      | inl block ↦ cond-true (rank k.kind == 0) _ _ block ∙ not_from_false (list_any (hangs T) T) (none_hangs_in T valid)
      | inr other ↦ cond-false (rank k.kind == 0) _ _ other ∙ not_from_false (hangs_at T k o) (none_hangs_at T valid k o here)
    ]

-- the same for the answer of a function over the entries of the program after the change
pub decides : (S T : Program) (k : Key) (o : Option Cell) (b : Bool) → IsValid S → T ≡ placed S k o → b ≡ stays_valid T k o → (b ≡ true → IsValid (placed S k o)) × (IsValid (placed S k o) → b ≡ true)
decides S T k o b valid is answer =
    let same : b ≡ stays_valid (placed S k o) k o = answer ∙ ap (λ (R : Program). stays_valid R k o) is in (
      λ h. valid_from S k o valid (sym same ∙ h),
      λ after. same ∙ stays_where_valid (placed S k o) k o (cell_at_placed S k o) after,
    )
