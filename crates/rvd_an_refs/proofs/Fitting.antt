-- The references that an instruction lacks fit the program: `refs_fitting`. Each goes to an address, from an address with
-- an instruction, and stands in a slot of its own.
use Rattle.std.proofs.Common.{◌≡◌, ℕ, ◌-◌, ◌%◌, ◌^◌, true, ◌&&◌, List, [], ◌∷◌, ◌++◌, Option, Some, None, refl, sym, ap, ◌∙◌, subst, arith}
use Rattle.std.specs.Prelude.{is_none, is_some, nat_le}
use Rattle.std.specs.Option.{option_and_then, option_map}
use Rattle.std.proofs.lemmas.Bool.{and_parts, cond_both, false≢true}
use Rattle.std.proofs.lemmas.Bool.Decides.{nat_tests}
use Rattle.std.proofs.lemmas.List.{append-nil}
use Rattle.std.proofs.lemmas.Option.{same_Some}
use Rattle.rvd_decode.specs.declared.insn.Op.{Op}
use Rattle.rvd_decode.specs.declared.insn.Op.TheVariants as op
use Rattle.rvd_decode.specs.Instruction.{Instruction}
use Rattle.rvd_decode.specs.Flow.{target}
use Rattle.rvd_fact.specs.declared.keys.Key.{Key}
use Rattle.rvd_fact.specs.declared.cells.Cell.{Cell}
use Rattle.rvd_fact.specs.declared.cells.Change.{Change}
use Rattle.rvd_fact.specs.declared.values.RefClass.{RefClass}
use Rattle.rvd_fact.specs.declared.values.Source.TheVariants.{Analysis}
use Rattle.rvd_fact.specs.declared.values.Value.TheVariants.{Ref}
use Rattle.rvd_fact.specs.Program.{Program, cell_at, placed}
use Rattle.rvd_fact.specs.Memory.{block, unit_key}
use Rattle.rvd_fact.specs.Valid.{is_address, is_of, suits, Fits, IsValid}
use Rattle.rvd_fact.proofs.Validity.{cell_at_other, valid_placed}
use Rattle.rvd_ask.specs.Places.{addition, cell_instruction, moved, ref_key, value_instruction}
use Rattle.rvd_ask.specs.Refs.{computed, computed_address, computed_class, direct, instruction_changes, refs_rule, slot_changes, target_class, upper_before}
use Rattle.rvd_ask.specs.Rules.{rule}
use Rattle.rvd_ask.specs.declared.asks.Analyzer.TheVariants.{Refs}
use Rattle.rvd_ask.specs.Fitting.{FittingLaw}
use Rattle.rvd_ask.proofs.Units.{none_there}
use Rattle.rvd_fact.proofs.Suiting.{address_there}

-- where there is a reference, it goes to an address
abbrev GoesToAddress : Option (RefClass × ℕ) → Type 0
GoesToAddress None = Unit {0}
GoesToAddress (Some r) = is_address r.1 ≡ true

wrapped : (n : ℕ) → is_address (n % 2 ^ 32) ≡ true
wrapped n = grind (arith, nat_tests)

even_address : (a : ℕ) → is_address a ≡ true → is_address (a - a % 2) ≡ true
even_address a h = grind (arith, nat_tests)

address_of : (o : Op) (a : ℕ) → is_address a ≡ true → is_address (computed_address o a) ≡ true
address_of op.Jalr a h = even_address a h
address_of o a h = h

direct_goes : (y : ℕ) (i : Instruction) (o : Option RefClass) → GoesToAddress (option_map (λ class. (class, target y i)) o)
direct_goes y i None = tt
direct_goes y i (Some class) = wrapped _

with_upper : (i : Instruction) (class : RefClass) (o : Option ℕ) → GoesToAddress (option_map (λ upper. (class, computed_address i.op (moved upper i.imm))) o)
with_upper i class None = tt
with_upper i class (Some upper) = address_of i.op (moved upper i.imm) (wrapped _)

computed_goes : (S : Program) (y : ℕ) (i : Instruction) (o : Option RefClass)
    → GoesToAddress (option_and_then (λ class. option_map (λ upper. (class, computed_address i.op (moved upper i.imm))) (upper_before S y i.rs1)) o)
computed_goes S y i None = tt
computed_goes S y i (Some class) = with_upper i class (upper_before S y i.rs1)

abbrev ref_cell : RefClass × ℕ → Cell
ref_cell r = record { value = Ref r.1 r.0; source = Analysis }

-- a program stays valid with a reference from an address to an address
valid_with : (T : Program) (y slot : ℕ) (r : RefClass × ℕ) → IsValid T → is_address y ≡ true → nat_le slot 63 ≡ true → is_address r.1 ≡ true → IsValid (placed T (ref_key y slot) (Some (ref_cell r)))
valid_with T y slot r valid from in_slots to =
    let suited : suits (ref_key y slot) (ref_cell r) ≡ true = λ i. from i && (in_slots i && (to i && true)) in
    valid_placed T (ref_key y slot) (Some (ref_cell r)) valid (λ e. absurd (omega (arith, e))) (λ e. absurd (omega (arith, e)))
    (λ c h. ap (suits (ref_key y slot)) (sym (same_Some (ref_cell r) c h)) ∙ suited)

-- the change of a slot that the program S has, with what comes behind it, on a program T with the same slot
slot_fits : (S T : Program) (y slot : ℕ) (o : Option (RefClass × ℕ)) (cs : List Change) → IsValid T → cell_at T (ref_key y slot) ≡ cell_at S (ref_key y slot)
    → is_address y ≡ true → nat_le slot 63 ≡ true → GoesToAddress o
    → ((c : Option Cell) → IsValid (placed T (ref_key y slot) c) → Fits (placed T (ref_key y slot) c) cs) → Fits T cs → Fits T (slot_changes S y slot o ++ cs)
slot_fits S T y slot None cs valid same from in_slots to after untouched = untouched
slot_fits S T y slot (Some r) cs valid same from in_slots to after untouched =
    let added = valid_with T y slot r valid from in_slots to in
    cond_both (is_some (block S r.1) && is_none (cell_at S (ref_key y slot))) (addition (ref_key y slot) (Ref r.1 r.0) ∷ []) [] (λ ds. Fits T (ds ++ cs))
    (λ h. (same ∙ none_there (cell_at S (ref_key y slot)) (and_parts (is_some (block S r.1)) (is_none (cell_at S (ref_key y slot))) h).1, added, after (Some (ref_cell r)) added))
    (λ h. untouched)

-- the second slot, on a program with the same cell there
last_fits : (S T : Program) (y : ℕ) (o : Option (RefClass × ℕ)) → IsValid T → cell_at T (ref_key y 1) ≡ cell_at S (ref_key y 1) → is_address y ≡ true → GoesToAddress o → Fits T (slot_changes S y 1 o)
last_fits S T y o valid same from to = subst (Fits T) (append-nil (slot_changes S y 1 o)) (slot_fits S T y 1 o [] valid same from refl to (λ c v. tt) tt)

slots_apart : (y : ℕ) → ref_key y 1 ≡ ref_key y 0 → ⊥
slots_apart y e = let subs = ap (λ (k : Key). k.sub) e in absurd (omega (arith, subs))

slots_fit : (S : Program) (y : ℕ) → IsValid S → is_address y ≡ true → (o : Option Instruction) → Fits S (instruction_changes S y o)
slots_fit S y valid from None = tt
slots_fit S y valid from (Some i) =
    let address = computed_goes S y i (computed_class i.op i.rd) in
    slot_fits S S y 0 (direct y i) (slot_changes S y 1 (computed S y i)) valid refl from refl (direct_goes y i (target_class i.op i.rd))
    (λ c v. last_fits S (placed S (ref_key y 0) c) y (computed S y i) v (cell_at_other S (ref_key y 0) c (ref_key y 1) (slots_apart y)) from address)
    (last_fits S S y (computed S y i) valid refl from address)

unit_fits : (S : Program) (y : ℕ) → IsValid S → (o : Option Cell) → cell_at S (unit_key y) ≡ o → Fits S (instruction_changes S y (cell_instruction o))
unit_fits S y valid None here = tt
unit_fits S y valid (Some c) here = slots_fit S y valid (address_there (unit_key y) c (valid.cells (unit_key y) c here)) (value_instruction c.value)

pub refs_fitting : FittingLaw Refs
unfolding rule refs_rule
refs_fitting S y valid = unit_fits S y valid (cell_at S (unit_key y)) refl
