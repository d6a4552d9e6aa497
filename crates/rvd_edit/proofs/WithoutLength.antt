-- A change at a key of no block that leaves nothing with a length there keeps a program valid: `valid_without_length`.
-- That is a change of all kinds of facts but blocks and units, and of a unit that goes.
use Rattle.std.proofs.Common.{◌≡◌, ℕ, true, false, [], ◌∷◌, Option, Some, None, refl, ap, ◌∙◌}
use Rattle.std.specs.Prelude.{nat_lt, ◌==◌}
use Rattle.std.specs.List.{list_any}
use Rattle.std.proofs.lemmas.Bool.{and_from, and_left, cond-false, not_from_false, ne_eqb}
use Rattle.rvd_fact.specs.declared.keys.Key.{Key}
use Rattle.rvd_fact.specs.declared.cells.Cell.{Cell}
use Rattle.rvd_fact.specs.declared.values.Value.{Value}
use Rattle.rvd_fact.specs.Order.{rank}
use Rattle.rvd_fact.specs.Program.{Program, placed}
use Rattle.rvd_fact.specs.Memory.{unit_len, block_len}
use Rattle.rvd_fact.specs.Valid.{IsValid, is_address, is_of, is_whole, may_stand, span, suits, top_sub}
use Rattle.std.specs.Prelude.{nat_le}
use Rattle.rvd_program.specs.Checks.{crowds, hangs_at, is_free, may_be}
use Rattle.rvd_program.proofs.Deciding.{valid_from}
use Rattle.rvd_program.proofs.Ranges.{none_crowds}

pub suits_from : (k : Key) (c : Cell) → is_of k.kind c.value ≡ true → is_address k.at ≡ true → nat_le k.sub (top_sub k.kind) ≡ true → is_whole k.at c.value ≡ true → may_stand c.source c.value ≡ true → suits k c ≡ true
suits_from k c of at sub whole stands =
    and_from (is_of k.kind c.value) _ of
    (and_from (is_address k.at) _ at
    (and_from (nat_le k.sub (top_sub k.kind)) _ sub (and_from (is_whole k.at c.value) _ whole stands)))

pub free_of_none : (len : Value → ℕ) (a n : ℕ) (T : Program) → n ≡ 0 → is_free len T a n ≡ true
free_of_none len a n T none = ap (is_free len T a) none ∙ not_from_false (list_any (crowds len a 0) T) (none_crowds len a T)

-- what has no length doesn't hang
not_hanging : (T : Program) (k : Key) (o : Option Cell) → span unit_len o ≡ 0 → hangs_at T k o ≡ false
not_hanging T k None none = refl
not_hanging T k (Some c) none = and_left (nat_lt 0 (unit_len c.value)) _ (ap (nat_lt 0) none)

pub valid_without_length : (S : Program) (k : Key) (o : Option Cell) → IsValid S → (rank k.kind ≡ 0 → ⊥) → may_be k o ≡ true → span block_len o ≡ 0 → span unit_len o ≡ 0 → IsValid (placed S k o)
valid_without_length S k o valid no_block own block unit =
    valid_from S k o valid
    (and_from (may_be k o) _ own
    (and_from (is_free block_len (placed S k o) k.at (span block_len o)) _ (free_of_none block_len k.at (span block_len o) (placed S k o) block)
    (and_from (is_free unit_len (placed S k o) k.at (span unit_len o)) _ (free_of_none unit_len k.at (span unit_len o) (placed S k o) unit)
    (cond-false (rank k.kind == 0) _ _ (ne_eqb (rank k.kind) 0 no_block) ∙ not_from_false (hangs_at (placed S k o) k o) (not_hanging (placed S k o) k o unit)))))
