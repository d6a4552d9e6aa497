-- The program of the tests: `valid_sample`, and what stands at its keys.
use Rattle.std.proofs.Common.{◌≡◌, ℕ, ◌<◌, true, false, cond, Some, None, refl, sym, ap, ◌∙◌, inl, inr, arith}
use Rattle.std.proofs.lemmas.Option.{same_Some}
use Rattle.std.specs.declared.cmp.Ordering.{Ordering}
use Rattle.std.specs.declared.cmp.Ordering.TheVariants.{Less, Equal, Greater}
use Rattle.std.specs.Ordering.{is_eq}
use Rattle.rvd_fact.specs.declared.keys.Key.{Key}
use Rattle.rvd_fact.specs.declared.cells.Cell.{Cell}
use Rattle.rvd_fact.specs.Order.{key_cmp, rank, same_key}
use Rattle.rvd_fact.specs.Program.{cell_at}
use Rattle.rvd_fact.specs.Memory.{block_key, block_len, unit_key, unit_len}
use Rattle.rvd_fact.specs.Valid.{IsValid, block_span, span, suits, unit_span}
use Rattle.rvd_fact.proofs.KeyOrder.{cases_key}
use Rattle.rvd_ask.specs.Places.{ref_key}
use Rattle.rvd_an_strings.specs.Sample.{sample, sample_block, sample_reference}

abbrev reference_at : Key
reference_at = ref_key 0x10000 1

abbrev block_at : Key
block_at = block_key 0x12000

is_other : (o : Ordering) → (o ≡ Equal → ⊥) → is_eq o ≡ false
is_other Less h = refl
is_other Equal h = absurd (h refl)
is_other Greater h = refl

-- ---- what stands at a key
pub reference_there : (k : Key) → key_cmp k reference_at ≡ Equal → cell_at sample k ≡ Some sample_reference
reference_there k is = ap (λ o. cond (is_eq o) (Some sample_reference) (cond (same_key k block_at) (Some sample_block) None)) is

pub block_there : (k : Key) → (key_cmp k reference_at ≡ Equal → ⊥) → key_cmp k block_at ≡ Equal → cell_at sample k ≡ Some sample_block
block_there k other is =
    ap (λ b. cond b (Some sample_reference) (cond (same_key k block_at) (Some sample_block) None)) (is_other (key_cmp k reference_at) other)
    ∙ ap (λ o. cond (is_eq o) (Some sample_block) None) is

none_at : (k : Key) → same_key k reference_at ≡ false → same_key k block_at ≡ false → cell_at sample k ≡ None
none_at k a b = λ i. cond (a i) (Some sample_reference) (cond (b i) (Some sample_block) None)

pub nothing_there : (k : Key) → (key_cmp k reference_at ≡ Equal → ⊥) → (key_cmp k block_at ≡ Equal → ⊥) → cell_at sample k ≡ None
nothing_there k a b = none_at k (is_other (key_cmp k reference_at) a) (is_other (key_cmp k block_at) b)

-- ---- it is valid
there_suits : (q : Key) (d : Cell) → cell_at sample q ≡ Some d → suits q d ≡ true → (k : Key) (c : Cell) → cell_at sample k ≡ Some c → k ≡ q → suits k c ≡ true
there_suits q d at_q suited k c here same =
    let cell : d ≡ c = same_Some d c (sym at_q ∙ ap (cell_at sample) (sym same) ∙ here) in
    (λ i. suits (same i) (sym cell i)) ∙ suited

cells : (k : Key) (c : Cell) → cell_at sample k ≡ Some c → suits k c ≡ true
cells k c here = elim (cases_key k reference_at) [
  | inl same ↦ there_suits reference_at sample_reference refl refl k c here same
  | inr not_reference ↦ elim (cases_key k block_at) [
    | inl same ↦ there_suits block_at sample_block refl refl k c here same
    | inr not_block ↦ let none : None ≡ Some c = sym (none_at k not_reference not_block) ∙ here in absurd cc
  ]
]

no_unit : (a : ℕ) → unit_span sample a ≡ 0
no_unit a = elim (cases_key (unit_key a) reference_at) [
  | inl same ↦ let kinds = ap (λ (k : Key). rank k.kind) same in absurd (omega (arith, kinds))
  | inr not_reference ↦ elim (cases_key (unit_key a) block_at) [
    | inl same ↦ let kinds = ap (λ (k : Key). rank k.kind) same in absurd (omega (arith, kinds))
    | inr not_block ↦ ap (span unit_len) (none_at (unit_key a) not_reference not_block)
  ]
]

one_block : (a : ℕ) → 0 < block_span sample a → a ≡ 0x12000
one_block a up = elim (cases_key (block_key a) reference_at) [
  | inl same ↦ let kinds = ap (λ (k : Key). rank k.kind) same in absurd (omega (arith, kinds))
  | inr not_reference ↦ elim (cases_key (block_key a) block_at) [
    | inl same ↦ ap (λ (k : Key). k.at) same
    | inr not_block ↦ let none = ap (span block_len) (none_at (block_key a) not_reference not_block) in absurd (omega (arith, none, up))
  ]
]

pub valid_sample : IsValid sample
valid_sample = record {
  in_order = tt;
  cells = cells;
  blocks_apart = λ a b below up_a up_b. let first = one_block a up_a in let second = one_block b up_b in absurd (omega (arith, first, second, below));
  units_apart = λ a b below up_a up_b. let none = no_unit a in absurd (omega (arith, none, up_a));
  in_a_block = λ a up. let none = no_unit a in absurd (omega (arith, none, up));
  words = λ a w s here. let none = no_unit a in let four = ap (span unit_len) here in absurd (omega (arith, none, four));
}
