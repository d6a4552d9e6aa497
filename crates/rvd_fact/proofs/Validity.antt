-- A change that is neither of a block nor of a unit keeps a program valid, where its cell suits its key:
-- `valid_placed`. Changes of blocks and units need more, since spans and words may change with them.
use Rattle.std.proofs.Common.{◌≡◌, ℕ, ◌+◌, ◌<◌, ◌≤◌, Bool, true, false, cond, ◌&&◌, Option, Some, None, refl, sym, ap, ◌∙◌, subst, inl, inr, arith}
use Rattle.std.specs.Prelude.{nat_le, nat_lt}
use Rattle.std.proofs.lemmas.Bool.{and_parts, eqb-true}
use Rattle.std.proofs.lemmas.Bool.Decides.{nat_tests}
use Rattle.rvd_fact.specs.declared.keys.Kind.{Kind}
use Rattle.rvd_fact.specs.declared.keys.Key.{Key}
use Rattle.rvd_fact.specs.declared.cells.Cell.{Cell}
use Rattle.rvd_fact.specs.declared.values.Value.{Value}
use Rattle.rvd_fact.specs.declared.values.Value.TheVariants.{Block, Mark, Func, Body, Symbol, Comment, Bookmark, Code, Plain, Ref, Gone}
use Rattle.rvd_fact.specs.Order.{rank}
use Rattle.rvd_fact.specs.Program.{Program, cell_at, placed}
use Rattle.std.specs.Option.{option_map, option_and_then}
use Rattle.std.specs.Int.{from_le_bytes, w32}
use Rattle.rvd_fact.specs.Memory.{unit_key, block_key, unit_len, block_len, surrounds, bytes_in, bytes, word}
use Rattle.rvd_fact.specs.Valid.{IsValid, suits, is_of, span, unit_span, block_span, AreApart}
use Rattle.rvd_fact.proofs.KeyOrder.{cases_key, same_key_itself}
use Rattle.rvd_fact.proofs.Programs.{cell_at-placed, in_order-placed}
use Rattle.rvd_fact.proofs.Placing.{Fails, first-placed}

pub suits-is_of : (k : Key) (c : Cell) → suits k c ≡ true → is_of k.kind c.value ≡ true
suits-is_of k c h = (and_parts (is_of k.kind c.value) _ h).0

-- what is of another kind than a block has no length of one
no_block : (K : Kind) (v : Value) → (rank K ≡ 0 → ⊥) → is_of K v ≡ true → block_len v ≡ 0
no_block K (Block len perm bytes) apart of = absurd (apart (eqb-true (rank K) 0 of))
no_block K Mark apart of = refl
no_block K Func apart of = refl
no_block K (Body s) apart of = refl
no_block K (Symbol s) apart of = refl
no_block K (Comment s) apart of = refl
no_block K (Bookmark s) apart of = refl
no_block K (Code w) apart of = refl
no_block K (Plain f) apart of = refl
no_block K (Ref to class) apart of = refl
no_block K Gone apart of = refl

empty_span : (b a n : ℕ) → n ≡ 0 → (nat_le b a && nat_lt a (b + n)) ≡ false
empty_span b a n h = grind (arith, nat_tests)

-- a cell at a key of another kind surrounds nothing
pub no_surround : (a : ℕ) (k : Key) (o : Option Cell) → (rank k.kind ≡ 0 → ⊥) → ((c : Cell) → o ≡ Some c → suits k c ≡ true) → Fails (surrounds a) k o
no_surround a k None apart fits = tt
no_surround a k (Some c) apart fits = empty_span k.at a (block_len c.value) (no_block k.kind c.value apart (suits-is_of k c (fits c refl)))

-- another key's cell stays
pub cell_at_other : (S : Program) (k : Key) (o : Option Cell) (q : Key) → (q ≡ k → ⊥) → cell_at (placed S k o) q ≡ cell_at S q
cell_at_other S k o q other = elim (cases_key q k) [
  | inl same ↦ absurd (other same)
  | inr apart ↦ cell_at-placed S k o q ∙ ap (λ (b : Bool). cond b o (cell_at S q)) apart
]

pub cell_at_placed : (S : Program) (k : Key) (o : Option Cell) → cell_at (placed S k o) k ≡ o
cell_at_placed S k o = cell_at-placed S k o k ∙ ap (λ (b : Bool). cond b o (cell_at S k)) (same_key_itself k)

module _ (S : Program) (k : Key) (o : Option Cell) (valid : IsValid S) (no_block : rank k.kind ≡ 0 → ⊥) (no_unit : rank k.kind ≡ 7 → ⊥) (fits : (c : Cell) → o ≡ Some c → suits k c ≡ true) where
  other_block : (a : ℕ) → cell_at (placed S k o) (block_key a) ≡ cell_at S (block_key a)
  other_block a = cell_at_other S k o (block_key a) (λ e. no_block (ap (λ (q : Key). rank q.kind) (sym e)))

  other_unit : (a : ℕ) → cell_at (placed S k o) (unit_key a) ≡ cell_at S (unit_key a)
  other_unit a = cell_at_other S k o (unit_key a) (λ e. no_unit (ap (λ (q : Key). rank q.kind) (sym e)))

  same_blocks : block_span (placed S k o) ≡ block_span S
  same_blocks = λ i a. span block_len (other_block a i)

  same_units : unit_span (placed S k o) ≡ unit_span S
  same_units = λ i a. span unit_len (other_unit a i)

  same_word : (a : ℕ) → word (placed S k o) a ≡ word S a
  same_word a =
      ap (λ (e : Option (Key × Cell)). option_map (from_le_bytes w32) (option_and_then (λ (x : Key × Cell). bytes_in x.0.at a 4 x.1.value) e))
      (first-placed (surrounds a) S k o valid.in_order (no_surround a k (cell_at S k) no_block (λ c h. valid.cells k c h)) (no_surround a k o no_block fits))

  cells : (q : Key) (c : Cell) → cell_at (placed S k o) q ≡ Some c → suits q c ≡ true
  cells q c h = elim (cases_key q k) [
    | inl same ↦ ap (λ (x : Key). suits x c) same ∙ fits c (sym (cell_at_placed S k o) ∙ ap (cell_at (placed S k o)) (sym same) ∙ h)
    | inr apart ↦ valid.cells q c (sym (cell_at-placed S k o q ∙ ap (λ (b : Bool). cond b o (cell_at S q)) apart) ∙ h)
  ]

  pub valid_placed : IsValid (placed S k o)
  valid_placed = record {
    in_order = in_order-placed S k o valid.in_order;
    cells = cells;
    blocks_apart = subst AreApart (sym same_blocks) valid.blocks_apart;
    units_apart = subst AreApart (sym same_units) valid.units_apart;
    in_a_block = subst (λ (u : ℕ → ℕ). (a : ℕ) → 0 < u a → (b : ℕ) × (b ≤ a) × (a + u a ≤ b + block_span (placed S k o) b)) (sym same_units)
        (subst (λ (v : ℕ → ℕ). (a : ℕ) → 0 < unit_span S a → (b : ℕ) × (b ≤ a) × (a + unit_span S a ≤ b + v b)) (sym same_blocks) valid.in_a_block);
    words = λ a w s h. same_word a ∙ valid.words a w s (sym (other_unit a) ∙ h);
  }
