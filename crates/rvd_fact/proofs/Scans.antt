-- What a scan of a program's entries finds, by the cells at its keys. Use `found` to get a key from a scan
-- that says yes, `scanned` for the way back, and `behind` for a key that is found behind an entry.
use Rattle.std.proofs.Common.{◌≡◌, Bool, true, false, cond, ◌&&◌, [], ◌∷◌, Some, None, refl, sym, ap, ◌∙◌, inl, inr}
use Rattle.std.specs.Prelude.{T}
use Rattle.std.specs.List.{list_any}
use Rattle.std.specs.declared.cmp.Ordering.TheVariants.{Less, Equal, Greater}
use Rattle.std.specs.Ordering.{is_eq, is_lt}
use Rattle.std.specs.FinMap.Entries.{below_all}
use Rattle.std.proofs.lemmas.Bool.{or_cases, or_right, or_left, false≢true}
use Rattle.rvd_fact.specs.declared.keys.Key.{Key}
use Rattle.rvd_fact.specs.declared.cells.Cell.{Cell}
use Rattle.rvd_fact.specs.Order.{key_cmp, same_key}
use Rattle.rvd_fact.specs.Program.{Program, cell_at, IsInOrder}
use Rattle.rvd_fact.proofs.KeyOrder.{same_key_itself, cases_key}
use Rattle.std.proofs.lemmas.Option.{none-some, same_Some}

-- a cell that passes stands at some key
pub record Found (p : Key × Cell → Bool) (S : Program) : Type 0 where
  pub key : Key
  pub cell : Cell
  pub here : cell_at S key ≡ Some cell
  pub passes : p (key, cell) ≡ true

pub first : (a b : Bool) → T (a && b) → T a
first true b h = tt
first false b h = absurd h

pub second : (a b : Bool) → T (a && b) → T b
second true b h = h
second false b h = absurd h

not_below : (a b : Key) → T (is_lt (key_cmp a b)) → same_key a b ≡ false
not_below a b h = elim (key_cmp a b) as (λ r. T (is_lt r) → is_eq r ≡ false) [ Less ↦ λ _. refl | Equal ↦ λ x. absurd x | Greater ↦ λ x. absurd x ] h

-- a key below all others is not among them
pub absent : (q : Key) (es : Program) → T (below_all key_cmp q es) → cell_at es q ≡ None
absent q [] h = refl
absent q (e ∷ es) h = ap (λ (b : Bool). cond b (Some e.1) (cell_at es q)) (not_below q e.0 (first _ _ h)) ∙ absent q es (second _ _ h)

-- a key that is found behind an entry is another
pub behind : (e : Key × Cell) (es : Program) (k : Key) (c : Cell) → T (below_all key_cmp e.0 es) → cell_at es k ≡ Some c → cell_at (e ∷ es) k ≡ Some c
behind e es k c below here = elim (cases_key k e.0) [
  | inl same ↦ absurd (none-some c (sym (absent e.0 es below) ∙ ap (cell_at es) (sym same) ∙ here))
  | inr other ↦ ap (λ (b : Bool). cond b (Some e.1) (cell_at es k)) other ∙ here
]

-- a scan that says yes has found such a cell
pub found : (p : Key × Cell → Bool) (S : Program) → IsInOrder S → list_any p S ≡ true → Found p S
found p [] s h = absurd (false≢true h)
found p (e ∷ es) s h = elim (or_cases (p e) (list_any p es) h) [
  | inl here ↦ record { key = e.0; cell = e.1; here = ap (λ (b : Bool). cond b (Some e.1) (cell_at es e.0)) (same_key_itself e.0); passes = here }
  | inr later ↦
      let f : Found p es = found p es (second _ _ s) later in
      record { key = f.key; cell = f.cell; here = behind e es f.key f.cell (first _ _ s) f.here; passes = f.passes }
]

-- where such a cell stands, the scan says yes
pub scanned : (p : Key × Cell → Bool) (S : Program) → Found p S → list_any p S ≡ true
scanned p [] f = absurd (none-some f.cell f.here)
scanned p (e ∷ es) f = elim (cases_key f.key e.0) [
  | inl same ↦
      let here : Some e.1 ≡ Some f.cell = sym (ap (λ (b : Bool). cond b (Some e.1) (cell_at es f.key)) (ap (λ (k : Key). same_key k e.0) same ∙ same_key_itself e.0)) ∙ f.here in
      or_left (p e) _ (ap (λ (x : Key × Cell). p x) (λ i. (sym same i, same_Some e.1 f.cell here i)) ∙ f.passes)
  | inr other ↦
      let later : Found p es = record { key = f.key; cell = f.cell; here = sym (ap (λ (b : Bool). cond b (Some e.1) (cell_at es f.key)) other) ∙ f.here; passes = f.passes } in
      or_right (p e) _ (scanned p es later)
]
