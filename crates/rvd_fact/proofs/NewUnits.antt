-- A unit that lies in a block, meets no other unit and says the word that is there may be put into a valid program:
-- `valid_unit`. What the program has elsewhere stays: `same_word`, `same_block` and `same_cover`.
use Rattle.std.proofs.Common.{◌≡◌, ℕ, ◌+◌, ◌<◌, ◌≤◌, Bool, true, false, cond, Option, Some, None, sym, ap, ◌∙◌, subst, inl, inr, ◌⊎◌, arith}
use Rattle.std.specs.Prelude.{find as first_where}
use Rattle.std.specs.Option.{option_map, option_and_then}
use Rattle.std.specs.Int.{from_le_bytes, w32}
use Rattle.std.proofs.lemmas.Bool.{cases_eq}
use Rattle.rvd_fact.specs.declared.keys.Key.{Key}
use Rattle.rvd_fact.specs.declared.cells.Cell.{Cell}
use Rattle.rvd_fact.specs.declared.values.Source.{Source}
use Rattle.rvd_fact.specs.declared.values.Value.TheVariants.{Code}
use Rattle.rvd_fact.specs.Order.{rank}
use Rattle.rvd_fact.specs.Program.{Program, cell_at, placed}
use Rattle.rvd_fact.specs.Memory.{block, block_key, block_len, bytes_in, cover, covers, surrounds, unit_key, unit_len, word}
use Rattle.rvd_fact.specs.Valid.{AreApart, IsValid, block_span, span, suits, unit_span}
use Rattle.rvd_fact.proofs.KeyOrder.{cases_key}
use Rattle.rvd_fact.proofs.Placing.{Fails, first-placed}
use Rattle.rvd_fact.proofs.Programs.{cell_at-placed, in_order-placed}
use Rattle.rvd_fact.proofs.Validity.{cell_at_other, cell_at_placed, no_surround}
use Rattle.std.proofs.lemmas.Option.{same_Some}

-- spans stay apart where the one that is new is apart from each other
apart_with : (at new : ℕ → ℕ) (a : ℕ) → AreApart at → ((x : ℕ) → (x ≡ a → ⊥) → new x ≡ at x) → ((b : ℕ) → (b ≡ a → ⊥) → 0 < new b → (a + new a ≤ b) ⊎ (b + new b ≤ a)) → AreApart new
apart_with at new a apart same free x y below up_x up_y =
    elim (cases_eq x a) [
      | inl is_x ↦ elim (free y (λ e. omega (arith, below, is_x, e)) up_y) [
        | inl h ↦ subst (λ (z : ℕ). z + new z ≤ y) (sym is_x) h
        | inr h ↦ absurd (omega (arith, below, is_x, h))
      ]
      | inr not_x ↦ elim (cases_eq y a) [
        | inl is_y ↦ elim (free x not_x up_x) [
          | inl h ↦ absurd (omega (arith, below, is_y, h))
          | inr h ↦ subst (λ (z : ℕ). x + new x ≤ z) (sym is_y) h
        ]
        | inr not_y ↦
            subst (λ (n : ℕ). x + n ≤ y) (sym (same x not_x))
            (apart x y below (subst (λ (n : ℕ). 0 < n) (same x not_x) up_x) (subst (λ (n : ℕ). 0 < n) (same y not_y) up_y))
      ]
    ]

module _ (S : Program) (a : ℕ) (c : Cell) (valid : IsValid S) (own : suits (unit_key a) c ≡ true) where
  abbrev pub there : Program
  there = placed S (unit_key a) (Some c)

  no_block : rank (unit_key a).kind ≡ 0 → ⊥
  no_block e = omega (arith, e)

  own_is : (d : Cell) → Some c ≡ Some d → suits (unit_key a) d ≡ true
  own_is d is = sym (ap (suits (unit_key a)) (same_Some c d is)) ∙ own

  same_around : (x : ℕ) → first_where (surrounds x) there ≡ first_where (surrounds x) S
  same_around x =
      first-placed (surrounds x) S (unit_key a) (Some c) valid.in_order
      (no_surround x (unit_key a) (cell_at S (unit_key a)) no_block (λ d h. valid.cells (unit_key a) d h))
      (no_surround x (unit_key a) (Some c) no_block own_is)

  pub same_word : (x : ℕ) → word there x ≡ word S x
  same_word x = ap (λ (e : Option (Key × Cell)). option_map (from_le_bytes w32) (option_and_then (λ (y : Key × Cell). bytes_in y.0.at x 4 y.1.value) e)) (same_around x)

  pub same_block : (x : ℕ) → block there x ≡ block S x
  same_block x = ap (option_map (λ (e : Key × Cell). e.0.at)) (same_around x)

  pub other_block : (b : ℕ) → cell_at there (block_key b) ≡ cell_at S (block_key b)
  other_block b = cell_at_other S (unit_key a) (Some c) (block_key b) (λ e. no_block (ap (λ (q : Key). rank q.kind) (sym e)))

  pub other_unit : (x : ℕ) → (x ≡ a → ⊥) → cell_at there (unit_key x) ≡ cell_at S (unit_key x)
  other_unit x other = cell_at_other S (unit_key a) (Some c) (unit_key x) (λ e. other (ap (λ (q : Key). q.at) e))

  -- a byte that the new unit doesn't have is covered as before
  pub same_cover : (x : ℕ) → cell_at S (unit_key a) ≡ None → covers x (unit_key a, c) ≡ false → cover there x ≡ cover S x
  same_cover x empty apart = ap (option_map (λ (e : Key × Cell). e.0.at)) (first-placed (covers x) S (unit_key a) (Some c) valid.in_order (subst (Fails (covers x) (unit_key a)) (sym empty) tt) apart)

  same_blocks : block_span there ≡ block_span S
  same_blocks = λ i b. span block_len (other_block b i)

  own_span : unit_span there a ≡ unit_len c.value
  own_span = ap (span unit_len) (cell_at_placed S (unit_key a) (Some c))

  other_span : (x : ℕ) → (x ≡ a → ⊥) → unit_span there x ≡ unit_span S x
  other_span x other = ap (span unit_len) (other_unit x other)

  cells : (q : Key) (d : Cell) → cell_at there q ≡ Some d → suits q d ≡ true
  cells q d h = elim (cases_key q (unit_key a)) [
    | inl same ↦ ap (λ (x : Key). suits x d) same ∙ own_is d (sym (cell_at_placed S (unit_key a) (Some c)) ∙ ap (cell_at there) (sym same) ∙ h)
    | inr apart ↦ valid.cells q d (sym (cell_at-placed S (unit_key a) (Some c) q ∙ ap (λ (b : Bool). cond b (Some c) (cell_at S q)) apart) ∙ h)
  ]

  module _ (home : (b : ℕ) × (b ≤ a) × (a + unit_len c.value ≤ b + block_span S b)) (free : (b : ℕ) → (b ≡ a → ⊥) → 0 < unit_span S b → (a + unit_len c.value ≤ b) ⊎ (b + unit_span S b ≤ a)) (says : (w : ℕ) (s : Source) → c ≡ record { value = Code w; source = s } → word S a ≡ Some w) where
    own_free : (b : ℕ) → (b ≡ a → ⊥) → 0 < unit_span there b → (a + unit_span there a ≤ b) ⊎ (b + unit_span there b ≤ a)
    own_free b other up =
        subst (λ (n : ℕ). (a + n ≤ b) ⊎ (b + unit_span there b ≤ a)) (sym own_span)
        (subst (λ (n : ℕ). (a + unit_len c.value ≤ b) ⊎ (b + n ≤ a)) (sym (other_span b other)) (free b other (subst (λ (n : ℕ). 0 < n) (other_span b other) up)))

    in_a_block : (x : ℕ) → 0 < unit_span there x → (b : ℕ) × (b ≤ x) × (x + unit_span there x ≤ b + block_span there b)
    in_a_block x up =
        subst (λ (v : ℕ → ℕ). (b : ℕ) × (b ≤ x) × (x + unit_span there x ≤ b + v b)) (sym same_blocks)
        (elim (cases_eq x a) [
          | inl same ↦ subst (λ (y : ℕ). (b : ℕ) × (b ≤ y) × (y + unit_span there y ≤ b + block_span S b)) (sym same) (subst (λ (n : ℕ). (b : ℕ) × (b ≤ a) × (a + n ≤ b + block_span S b)) (sym own_span) home)
          | inr other ↦ subst (λ (n : ℕ). (b : ℕ) × (b ≤ x) × (x + n ≤ b + block_span S b)) (sym (other_span x other)) (valid.in_a_block x (subst (λ (n : ℕ). 0 < n) (other_span x other) up))
        ])

    words : (x w : ℕ) (s : Source) → cell_at there (unit_key x) ≡ Some (record { value = Code w; source = s }) → word there x ≡ Some w
    words x w s h = same_word x ∙ elim (cases_eq x a) [
      | inl same ↦ ap (word S) same ∙ says w s (same_Some c (record { value = Code w; source = s }) (sym (cell_at_placed S (unit_key a) (Some c)) ∙ ap (λ (y : ℕ). cell_at there (unit_key y)) (sym same) ∙ h))
      | inr other ↦ valid.words x w s (sym (other_unit x other) ∙ h)
    ]

    pub valid_unit : IsValid there
    valid_unit = record {
      in_order = in_order-placed S (unit_key a) (Some c) valid.in_order;
      cells = cells;
      blocks_apart = subst AreApart (sym same_blocks) valid.blocks_apart;
      units_apart = apart_with (unit_span S) (unit_span there) a valid.units_apart other_span own_free;
      in_a_block = in_a_block;
      words = words;
    }
