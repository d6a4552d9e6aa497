-- A unit that lies in a block, meets no other unit and has the word that is there may be put into a valid program:
-- `valid_new_unit`.
use Rattle.std.proofs.Common.{◌≡◌, ℕ, ◌+◌, ◌<◌, true, false, ◌&&◌, Option, Some, None, refl, sym, ap, ◌∙◌, arith}
use Rattle.std.specs.Prelude.{nat_lt, nat_le}
use Rattle.std.specs.List.{list_any}
use Rattle.std.specs.Option.{option_map, option_and_then}
use Rattle.std.specs.Int.{from_le_bytes, w32}
use Rattle.std.proofs.lemmas.Bool.{and_from, and_right, le-leb, lt-ltb, not_from_false, not_from_true}
use Rattle.std.proofs.lemmas.Option.{same_Some}
use Rattle.rvd_fact.specs.declared.keys.Key.{Key}
use Rattle.rvd_fact.specs.declared.cells.Cell.{Cell}
use Rattle.rvd_fact.specs.declared.values.Value.{Value}
use Rattle.rvd_fact.specs.Order.{rank}
use Rattle.rvd_fact.specs.Program.{Program, cell_at, placed}
use Rattle.rvd_fact.specs.Memory.{block_key, block_len, bytes_in, surrounds, unit_key, unit_len, word}
use Rattle.rvd_fact.specs.Valid.{IsValid, block_span, span, suits}
use Rattle.rvd_fact.proofs.Placing.{first-placed}
use Rattle.rvd_fact.proofs.Scans.{scanned}
use Rattle.rvd_fact.proofs.Validity.{cell_at_other, no_surround}
use Rattle.rvd_program.specs.Checks.{agrees, encloses, hangs, is_free, may_be}
use Rattle.rvd_program.proofs.Deciding.{valid_from}
use Rattle.rvd_program.proofs.Lengths.{some_of}
use Rattle.rvd_edit.specs.Changes.{of_analyst}
use Rattle.rvd_edit.specs.Spaces.{first_met}
use Rattle.rvd_edit.proofs.NothingMet.{Home, free_there}
use Rattle.rvd_edit.proofs.WithoutLength.{free_of_none}

module _ (S : Program) (a : ℕ) (v : Value) (valid : IsValid S) (up : 0 < unit_len v) (no_block : block_len v ≡ 0) (home : Home S a (unit_len v)) (none : first_met unit_len S a (unit_len v) ≡ None) (own : suits (unit_key a) (of_analyst v) ≡ true) (told : agrees (word S a) v ≡ true) where
  abbrev there : Program
  there = placed S (unit_key a) (Some (of_analyst v))

  unit_rank : rank (unit_key a).kind ≡ 0 → ⊥
  unit_rank e = omega (arith, e)

  inside : list_any (encloses a (unit_len v)) there ≡ true
  inside =
      let wide : 0 < block_span S home.0 = omega (arith, up, home.1, home.2) in
      let held = some_of block_len (cell_at S (block_key home.0)) wide in
      let size : block_span S home.0 ≡ block_len held.0.value = ap (span block_len) held.1 in
      let here : cell_at there (block_key home.0) ≡ Some held.0 = cell_at_other S (unit_key a) (Some (of_analyst v)) (block_key home.0) (λ e. let r : rank (block_key home.0).kind ≡ rank (unit_key a).kind = ap (λ (q : Key). rank q.kind) e in omega (arith, r)) ∙ held.1 in
      scanned (encloses a (unit_len v)) there (record {
        key = block_key home.0;
        cell = held.0;
        here = here;
        passes =
            and_from (nat_lt 0 (block_len held.0.value)) _ (lt-ltb 0 (block_len held.0.value) (omega (arith, wide, size)))
            (and_from (nat_le home.0 a) _ (le-leb home.0 a home.1) (le-leb (a + unit_len v) (home.0 + block_len held.0.value) (omega (arith, home.2, size))));
      })

  own_is : (c : Cell) → Some (of_analyst v) ≡ Some c → suits (unit_key a) c ≡ true
  own_is c is = sym (ap (suits (unit_key a)) (same_Some (of_analyst v) c is)) ∙ own

  same_word : word there a ≡ word S a
  same_word =
      ap (λ (e : Option (Key × Cell)). option_map (from_le_bytes w32) (option_and_then (λ (x : Key × Cell). bytes_in x.0.at a 4 x.1.value) e))
      (first-placed (surrounds a) S (unit_key a) (Some (of_analyst v)) valid.in_order
      (no_surround a (unit_key a) (cell_at S (unit_key a)) unit_rank (λ c h. valid.cells (unit_key a) c h))
      (no_surround a (unit_key a) (Some (of_analyst v)) unit_rank own_is))

  stands : hangs there (unit_key a, of_analyst v) ≡ false
  stands =
      and_right (nat_lt 0 (unit_len v)) _ (not_from_true (list_any (encloses a (unit_len v)) there && agrees (word there a) v)
      (and_from (list_any (encloses a (unit_len v)) there) (agrees (word there a) v) inside (ap (λ (w : Option ℕ). agrees w v) same_word ∙ told)))

  pub valid_new_unit : IsValid there
  valid_new_unit =
      valid_from S (unit_key a) (Some (of_analyst v)) valid
      (and_from (may_be (unit_key a) (Some (of_analyst v))) _ own
      (and_from (is_free block_len there a (block_len v)) _ (free_of_none block_len a (block_len v) there no_block)
      (and_from (is_free unit_len there a (unit_len v)) _ (free_there unit_len S valid a (unit_len v) none (unit_key a) (Some (of_analyst v)) refl)
      (not_from_false (hangs there (unit_key a, of_analyst v)) stands))))
