-- The bytes of a range in memory are as many as were asked for: `bytes-length`. `surrounded` tells what a block that is
-- found around an address has.
use Rattle.std.proofs.Common.{◌≡◌, ℕ, ◌+◌, ◌-◌, ◌<◌, ◌≤◌, Bool, true, cond, ◌&&◌, List, [], ◌∷◌, length, take, drop, Option, Some, None, refl, sym, ap, ◌∙◌, arith, inl, inr, length-take, length-drop}
use Rattle.std.specs.Prelude.{nat_lt, nat_le, find as first_where}
use Rattle.std.specs.Option.{option_and_then}
use Rattle.std.proofs.lemmas.Bool.{and_parts, cases_Bool, leb-true, ltb-true}
use Rattle.rvd_fact.specs.declared.keys.Key.{Key}
use Rattle.rvd_fact.specs.declared.cells.Cell.{Cell}
use Rattle.rvd_fact.specs.declared.values.Value.{Value}
use Rattle.rvd_fact.specs.declared.values.Value.TheVariants.{Block, Mark, Func, Body, Symbol, Comment, Bookmark, Code, Plain, Ref, Gone}
use Rattle.rvd_fact.specs.Program.{Program}
use Rattle.rvd_fact.specs.Memory.{block_len, bytes, bytes_in, surrounds}

-- the first entry that passes a test passes it
pub first_passes : (p : Key × Cell → Bool) (S : Program) (e : Key × Cell) → first_where p S ≡ Some e → p e ≡ true
first_passes p [] e h = absurd cc
first_passes p (x ∷ S) e h = elim (cases_Bool (p x)) [
  | inl passes ↦
      let is : Some x ≡ Some e = sym (ap (λ (b : Bool). cond b (Some x) (first_where p S)) passes) ∙ h in
      let same : x ≡ e = cc in
      ap p (sym same) ∙ passes
  | inr fails ↦ first_passes p S e (sym (ap (λ (b : Bool). cond b (Some x) (first_where p S)) fails) ∙ h)
]

some_bytes : (start a n len : ℕ) (all bs : List ℕ) → start ≤ a → cond (nat_lt 0 n && nat_le (a + n) (start + length all)) (Some (take n (drop (a - start) all))) None ≡ Some bs → length bs ≡ n
some_bytes start a n len all bs low h = elim (cases_Bool (nat_lt 0 n && nat_le (a + n) (start + length all))) [
  | inl passes ↦
      let is : Some (take n (drop (a - start) all)) ≡ Some bs = sym (ap (λ (b : Bool). cond b (Some (take n (drop (a - start) all))) None) passes) ∙ h in
      let same : take n (drop (a - start) all) ≡ bs = cc in
      let fits : a + n ≤ start + length all = leb-true (a + n) (start + length all) (and_parts (nat_lt 0 n) (nat_le (a + n) (start + length all)) passes).1 in
      ap length (sym same) ∙ grind (arith, length-take, length-drop)
  | inr fails ↦
      let is : None ≡ Some bs = sym (ap (λ (b : Bool). cond b (Some (take n (drop (a - start) all))) None) fails) ∙ h in
      absurd cc
]

bytes_in-length : (start a n : ℕ) (v : Value) (bs : List ℕ) → start ≤ a → bytes_in start a n v ≡ Some bs → length bs ≡ n
bytes_in-length start a n (Block len perm (Some all)) bs low h = some_bytes start a n len all bs low h
bytes_in-length start a n (Block len perm None) bs low h = absurd cc
bytes_in-length start a n Mark bs low h = absurd cc
bytes_in-length start a n Func bs low h = absurd cc
bytes_in-length start a n (Body s) bs low h = absurd cc
bytes_in-length start a n (Symbol s) bs low h = absurd cc
bytes_in-length start a n (Comment s) bs low h = absurd cc
bytes_in-length start a n (Bookmark s) bs low h = absurd cc
bytes_in-length start a n (Code w) bs low h = absurd cc
bytes_in-length start a n (Plain f) bs low h = absurd cc
bytes_in-length start a n (Ref to class) bs low h = absurd cc
bytes_in-length start a n Gone bs low h = absurd cc

-- what an entry found around an address has
pub surrounded : (S : Program) (a : ℕ) (e : Key × Cell) → first_where (surrounds a) S ≡ Some e → (e.0.at ≤ a) × (a < e.0.at + block_len e.1.value)
surrounded S a e h =
    let p = and_parts (nat_le e.0.at a) (nat_lt a (e.0.at + block_len e.1.value)) (first_passes (surrounds a) S e h) in
    (leb-true e.0.at a p.0, ltb-true a (e.0.at + block_len e.1.value) p.1)

found_bytes : (S : Program) (a n : ℕ) (bs : List ℕ) (o : Option (Key × Cell)) → first_where (surrounds a) S ≡ o → option_and_then (λ (e : Key × Cell). bytes_in e.0.at a n e.1.value) o ≡ Some bs → length bs ≡ n
found_bytes S a n bs None is h = absurd cc
found_bytes S a n bs (Some e) is h = bytes_in-length e.0.at a n e.1.value bs (surrounded S a e is).0 h

pub bytes-length : (S : Program) (a n : ℕ) (bs : List ℕ) → bytes S a n ≡ Some bs → length bs ≡ n
bytes-length S a n bs h = found_bytes S a n bs (first_where (surrounds a) S) refl h
