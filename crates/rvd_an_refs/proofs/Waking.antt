-- A change that doesn't wake the rule of references at an address leaves its changes there as they were, or nothing is
-- present there: `wakes_refs_law`.
use Rattle.std.proofs.Common.{◌≡◌, ℕ, ◌<◌, ◌^◌, false, cond, ◌&&◌, [], ◌∷◌, ◌++◌, Option, Some, None, refl, sym, ap, ◌∙◌, inl, inr, ◌⊎◌, arith}
use Rattle.std.specs.Prelude.{◌==◌, is_none, is_some}
use Rattle.std.specs.Option.{option_and_then, option_map}
use Rattle.std.proofs.lemmas.Bool.{eq-eqb, false≢true, or_parts}
use Rattle.rvd_decode.specs.Instruction.{Instruction}
use Rattle.rvd_fact.specs.declared.keys.Key.{Key}
use Rattle.rvd_fact.specs.declared.keys.Kind.{Kind}
use Rattle.rvd_fact.specs.declared.keys.Kind.TheVariants as kind
use Rattle.rvd_fact.specs.declared.cells.Cell.{Cell}
use Rattle.rvd_fact.specs.declared.cells.Change.{Change}
use Rattle.rvd_fact.specs.declared.values.RefClass.{RefClass}
use Rattle.rvd_fact.specs.declared.values.Value.TheVariants.{Ref}
use Rattle.rvd_fact.specs.Order.{rank}
use Rattle.rvd_fact.specs.Program.{Program, applied, cell_at, is_present}
use Rattle.rvd_fact.specs.Memory.{block, surrounds, unit_key}
use Rattle.rvd_fact.proofs.Placing.{first-placed}
use Rattle.rvd_fact.proofs.Validity.{cell_at_other, cell_at_placed, no_surround}
use Rattle.rvd_ask.specs.declared.asks.Analyzer.TheVariants.{Refs}
use Rattle.rvd_ask.specs.Places.{addition, cell_instruction, instruction_at, next_word, ref_key, word_before}
use Rattle.rvd_ask.specs.Refs.{computed, computed_class, direct, instruction_changes, refs_rule, slot_changes}
use Rattle.rvd_ask.specs.Rules.{rule}
use Rattle.rvd_ask.specs.Wake.{is_candidate, wakes, wakes_refs, CandidateLaw, Leads, WakeLaw}
use Rattle.rvd_an_refs.proofs.Locality.{computed_by}

-- a change of a kind that isn't Block, and neither at a unit that the rule reads nor at a reference of it
record Passes (K : Kind) (at y : ℕ) : Type 0 where
  block : rank K ≡ 0 → ⊥
  here : rank K ≡ 7 → (y == at) ≡ false
  behind : rank K ≡ 7 → (y == next_word at) ≡ false
  ref : rank K ≡ 8 → (y == at) ≡ false

-- a change of a kind that the rule doesn't read
passes : (K : Kind) (at y : ℕ) → (rank K ≡ 0 → ⊥) → (rank K ≡ 7 → ⊥) → (rank K ≡ 8 → ⊥) → Passes K at y
passes K at y no_block no_unit no_ref = record { block = no_block; here = λ e. absurd (no_unit e); behind = λ e. absurd (no_unit e); ref = λ e. absurd (no_ref e) }

asleep_by : (T : Program) (c : Change) (y : ℕ) (K : Kind) → wakes_refs K T c y ≡ false → (is_present (cell_at T (unit_key y)) ≡ false) ⊎ Passes K c.key.at y
asleep_by T c y kind.Block h = inl h
asleep_by T c y kind.Unit h = inr (record {
  block = λ e. absurd (omega (arith, e));
  here = λ e. (or_parts (y == c.key.at) (y == next_word c.key.at) h).0;
  behind = λ e. (or_parts (y == c.key.at) (y == next_word c.key.at) h).1;
  ref = λ e. absurd (omega (arith, e));
})
asleep_by T c y kind.Ref h = inr (record { block = λ e. absurd (omega (arith, e)); here = λ e. absurd (omega (arith, e)); behind = λ e. absurd (omega (arith, e)); ref = λ e. h })
asleep_by T c y kind.Mark h = inr (passes kind.Mark c.key.at y (λ e. absurd (omega (arith, e))) (λ e. absurd (omega (arith, e))) (λ e. absurd (omega (arith, e))))
asleep_by T c y kind.Func h = inr (passes kind.Func c.key.at y (λ e. absurd (omega (arith, e))) (λ e. absurd (omega (arith, e))) (λ e. absurd (omega (arith, e))))
asleep_by T c y kind.Body h = inr (passes kind.Body c.key.at y (λ e. absurd (omega (arith, e))) (λ e. absurd (omega (arith, e))) (λ e. absurd (omega (arith, e))))
asleep_by T c y kind.Symbol h = inr (passes kind.Symbol c.key.at y (λ e. absurd (omega (arith, e))) (λ e. absurd (omega (arith, e))) (λ e. absurd (omega (arith, e))))
asleep_by T c y kind.Comment h = inr (passes kind.Comment c.key.at y (λ e. absurd (omega (arith, e))) (λ e. absurd (omega (arith, e))) (λ e. absurd (omega (arith, e))))
asleep_by T c y kind.Bookmark h = inr (passes kind.Bookmark c.key.at y (λ e. absurd (omega (arith, e))) (λ e. absurd (omega (arith, e))) (λ e. absurd (omega (arith, e))))

-- the word before an address is followed by it
there_and_back : (y : ℕ) → y < 2 ^ 32 → y ≡ next_word (word_before y)
there_and_back y small = omega (arith, small)

differs : (a b : ℕ) → (a == b) ≡ false → a ≡ b → ⊥
differs a b h e = false≢true (sym h ∙ eq-eqb a b e)

module _ (S : Program) (c : Change) (y : ℕ) (small : y < 2 ^ 32) (l : Leads S c) (p : Passes c.key.kind c.key.at y) where
  same_unit : cell_at (applied S c) (unit_key y) ≡ cell_at S (unit_key y)
  same_unit = cell_at_other S c.key c.after (unit_key y) (λ e. differs y c.key.at (p.here (ap (λ (k : Key). rank k.kind) (sym e))) (ap (λ (k : Key). k.at) e))

  same_before : cell_at (applied S c) (unit_key (word_before y)) ≡ cell_at S (unit_key (word_before y))
  same_before =
      cell_at_other S c.key c.after (unit_key (word_before y))
      (λ e. differs y (next_word c.key.at) (p.behind (ap (λ (k : Key). rank k.kind) (sym e))) (there_and_back y small ∙ ap (λ (k : Key). next_word k.at) e))

  same_ref : (slot : ℕ) → cell_at (applied S c) (ref_key y slot) ≡ cell_at S (ref_key y slot)
  same_ref slot = cell_at_other S c.key c.after (ref_key y slot) (λ e. differs y c.key.at (p.ref (ap (λ (k : Key). rank k.kind) (sym e))) (ap (λ (k : Key). k.at) e))

  same_block : (a : ℕ) → block (applied S c) a ≡ block S a
  same_block a =
      ap (λ (o : Option (Key × Cell)). option_map (λ (e : Key × Cell). e.0.at) o)
      (first-placed (surrounds a) S c.key c.after l.before.in_order
      (no_surround a c.key (cell_at S c.key) p.block (λ x h. l.before.cells c.key x h))
      (no_surround a c.key c.after p.block (λ x h. l.after.cells c.key x (cell_at_placed S c.key c.after ∙ h))))

  same_slot : (slot : ℕ) (o : Option (RefClass × ℕ)) → slot_changes (applied S c) y slot o ≡ slot_changes S y slot o
  same_slot slot None = refl
  same_slot slot (Some r) = λ i. cond (is_some (same_block r.1 i) && is_none (same_ref slot i)) (addition (ref_key y slot) (Ref r.1 r.0) ∷ []) []

  same_slots : (o : Option Instruction) → instruction_changes (applied S c) y o ≡ instruction_changes S y o
  same_slots None = refl
  same_slots (Some k) =
      let address : computed (applied S c) y k ≡ computed S y k =
      ap (λ before. option_and_then (λ class. computed_by y k class (cell_instruction before)) (computed_class k.op k.rd)) same_before in
      let second = same_slot 1 (computed (applied S c) y k) ∙ ap (slot_changes S y 1) address in
      λ i. same_slot 0 (direct y k) i ++ second i

  same_rule : refs_rule (applied S c) y ≡ refs_rule S y
  unfolding refs_rule
  same_rule = same_slots (instruction_at (applied S c) y) ∙ ap (λ o. instruction_changes S y (cell_instruction o)) same_unit

-- the law, from the law that what isn't present has no change
pub wakes_refs_law : CandidateLaw Refs → WakeLaw Refs
unfolding rule wakes is_candidate
wakes_refs_law candidates S c y small l asleep settled = elim (asleep_by (applied S c) c y c.key.kind asleep) [
  | inl absent ↦ candidates (applied S c) y l.after absent
  | inr p ↦ same_rule S c y small l p ∙ settled
]
