-- Units of a valid program: the values that stand for them, the bytes that they have, and bytes that none has. Use `unit_rank`,
-- `stands` and `unit_same` for values, and `free_at`, `unfree`, `uncovered` and `any_covers` for bytes;
-- `none_there` turns a test of a look-up into what it found.
use Rattle.std.proofs.Common.{◌≡◌, ℕ, zero, suc, ◌+◌, ◌<◌, ◌≤◌, Bool, true, false, cond, ◌&&◌, ◌||◌, [], ◌∷◌, Option, Some, None, refl, sym, ap, ◌∙◌, inl, inr, arith}
use Rattle.std.specs.Prelude.{find as first_where, is_none, nat_le}
use Rattle.std.specs.List.{list_any}
use Rattle.std.specs.Option.{option_map}
use Rattle.std.proofs.lemmas.Bool.{and_from, and_parts, both_ways, cases_Bool, cases_eq, eqb-true, false≢true, le-leb, leb-true, lt-ltb, true≢false}
use Rattle.rvd_fact.specs.declared.keys.Key.{Key}
use Rattle.rvd_fact.specs.declared.keys.Kind.{Kind}
use Rattle.rvd_fact.specs.declared.keys.Kind.TheVariants as kind
use Rattle.rvd_fact.specs.declared.cells.Cell.{Cell}
use Rattle.rvd_fact.specs.declared.values.Form.{Form}
use Rattle.rvd_fact.specs.declared.values.Form.TheVariants.{Byte, Half, Word, Str}
use Rattle.rvd_fact.specs.declared.values.Value.{Value}
use Rattle.rvd_fact.specs.declared.values.Value.TheVariants.{Block, Mark, Func, Body, Symbol, Comment, Bookmark, Code, Plain, Ref, Gone}
use Rattle.rvd_fact.specs.Order.{rank}
use Rattle.rvd_fact.specs.Program.{Program, cell_at}
use Rattle.rvd_fact.specs.Memory.{cover, covers, form_len, unit_len}
use Rattle.rvd_fact.specs.Valid.{is_of, is_whole}
use Rattle.rvd_fact.proofs.Scans.{scanned}
use Rattle.rvd_ask.specs.Flow.{is_free}
use Rattle.rvd_ask.specs.Wake.{same_form, same_unit, stood_on}

-- ---- values of units
pub unit_rank : (K : Kind) (v : Value) → is_of K v ≡ true → 0 < unit_len v → rank K ≡ 7
unit_rank K (Code w) of up = eqb-true (rank K) 7 of
unit_rank K (Plain f) of up = eqb-true (rank K) 7 of
unit_rank K (Block len perm bytes) of up = absurd (omega (arith, up))
unit_rank K Mark of up = absurd (omega (arith, up))
unit_rank K Func of up = absurd (omega (arith, up))
unit_rank K (Body ranges) of up = absurd (omega (arith, up))
unit_rank K (Symbol name) of up = absurd (omega (arith, up))
unit_rank K (Comment text) of up = absurd (omega (arith, up))
unit_rank K (Bookmark text) of up = absurd (omega (arith, up))
unit_rank K (Ref to class) of up = absurd (omega (arith, up))
unit_rank K Gone of up = absurd (omega (arith, up))

-- a unit stands on its bytes
pub stands : (v : Value) → 0 < unit_len v → stood_on v ≡ unit_len v
stands Gone up = absurd (omega (arith, up))
stands (Block len perm bytes) up = refl
stands Mark up = refl
stands Func up = refl
stands (Body ranges) up = refl
stands (Symbol name) up = refl
stands (Comment text) up = refl
stands (Bookmark text) up = refl
stands (Code w) up = refl
stands (Plain f) up = refl
stands (Ref to class) up = refl

-- each cell of a unit's key stands on a byte
pub stands_on : (a : ℕ) (v : Value) → is_of kind.Unit v ≡ true → is_whole a v ≡ true → 0 < stood_on v
stands_on a (Code w) of whole = omega arith
stands_on a (Plain Byte) of whole = omega arith
stands_on a (Plain Half) of whole = omega arith
stands_on a (Plain Word) of whole = omega arith
stands_on a (Plain (Str n)) of whole = let low : 1 ≤ n = leb-true 1 n (and_parts (nat_le 1 n) (nat_le n 256) whole).0 in omega (arith, low)
stands_on a Gone of whole = omega arith
stands_on a (Block len perm bytes) of whole = absurd (false≢true of)
stands_on a Mark of whole = absurd (false≢true of)
stands_on a Func of whole = absurd (false≢true of)
stands_on a (Body ranges) of whole = absurd (false≢true of)
stands_on a (Symbol name) of whole = absurd (false≢true of)
stands_on a (Comment text) of whole = absurd (false≢true of)
stands_on a (Bookmark text) of whole = absurd (false≢true of)
stands_on a (Ref to class) of whole = absurd (false≢true of)

-- units that are one have the same bytes
form_same : (f g : Form) → same_form f g ≡ true → form_len f ≡ form_len g
form_same Byte Byte h = refl
form_same Byte Half h = absurd (false≢true h)
form_same Byte Word h = absurd (false≢true h)
form_same Byte (Str n) h = absurd (false≢true h)
form_same Half Byte h = absurd (false≢true h)
form_same Half Half h = refl
form_same Half Word h = absurd (false≢true h)
form_same Half (Str n) h = absurd (false≢true h)
form_same Word Byte h = absurd (false≢true h)
form_same Word Half h = absurd (false≢true h)
form_same Word Word h = refl
form_same Word (Str n) h = absurd (false≢true h)
form_same (Str m) Byte h = absurd (false≢true h)
form_same (Str m) Half h = absurd (false≢true h)
form_same (Str m) Word h = absurd (false≢true h)
form_same (Str m) (Str n) h = eqb-true m n h

code_same : (w : ℕ) (v : Value) → same_unit (Code w) v ≡ true → unit_len v ≡ 4
code_same w (Code v) h = refl
code_same w (Plain f) h = absurd (false≢true h)
code_same w (Block len perm bytes) h = absurd (false≢true h)
code_same w Mark h = absurd (false≢true h)
code_same w Func h = absurd (false≢true h)
code_same w (Body ranges) h = absurd (false≢true h)
code_same w (Symbol name) h = absurd (false≢true h)
code_same w (Comment text) h = absurd (false≢true h)
code_same w (Bookmark text) h = absurd (false≢true h)
code_same w (Ref to class) h = absurd (false≢true h)
code_same w Gone h = absurd (false≢true h)

plain_same : (f : Form) (v : Value) → same_unit (Plain f) v ≡ true → unit_len v ≡ form_len f
plain_same f (Plain g) h = sym (form_same f g h)
plain_same f (Code v) h = absurd (false≢true h)
plain_same f (Block len perm bytes) h = absurd (false≢true h)
plain_same f Mark h = absurd (false≢true h)
plain_same f Func h = absurd (false≢true h)
plain_same f (Body ranges) h = absurd (false≢true h)
plain_same f (Symbol name) h = absurd (false≢true h)
plain_same f (Comment text) h = absurd (false≢true h)
plain_same f (Bookmark text) h = absurd (false≢true h)
plain_same f (Ref to class) h = absurd (false≢true h)
plain_same f Gone h = absurd (false≢true h)

pub unit_same : (v w : Value) → 0 < unit_len v → same_unit v w ≡ true → unit_len w ≡ unit_len v
unit_same (Code a) w up h = code_same a w h
unit_same (Plain f) w up h = plain_same f w h
unit_same Gone w up h = absurd (omega (arith, up))
unit_same (Block len perm bytes) w up h = absurd (omega (arith, up))
unit_same Mark w up h = absurd (omega (arith, up))
unit_same Func w up h = absurd (omega (arith, up))
unit_same (Body ranges) w up h = absurd (omega (arith, up))
unit_same (Symbol name) w up h = absurd (omega (arith, up))
unit_same (Comment text) w up h = absurd (omega (arith, up))
unit_same (Bookmark text) w up h = absurd (omega (arith, up))
unit_same (Ref to class) w up h = absurd (omega (arith, up))

-- ---- bytes
-- where nothing is, there is None
pub none_there : {A : Type 0} (o : Option A) → is_none o ≡ true → o ≡ None
none_there None h = refl
none_there (Some x) h = absurd (false≢true h)

pub free_at : (S : Program) (n t x : ℕ) → is_free S t n ≡ true → t ≤ x → x < t + n → cover S x ≡ None
free_at S zero t x h low high = absurd (omega (arith, low, high))
free_at S (suc n) t x h low high =
    let parts = and_parts (is_none (cover S t)) (is_free S (t + 1) n) h in
    elim (cases_eq x t) [
      | inl same ↦ ap (cover S) same ∙ none_there (cover S t) parts.0
      | inr other ↦ free_at S n (t + 1) x parts.1 (omega (arith, low, other)) (omega (arith, high))
    ]

-- where none is the first, none passes
pub none_passes : (p : Key × Cell → Bool) (S : Program) → option_map (λ (e : Key × Cell). e.0.at) (first_where p S) ≡ None → list_any p S ≡ false
none_passes p [] h = refl
none_passes p (e ∷ S) h = elim (p e) as (λ b. option_map (λ (x : Key × Cell). x.0.at) (cond b (Some e) (first_where p S)) ≡ None → (b || list_any p S) ≡ false) [
  | true ↦ λ h. absurd cc
  | false ↦ λ h. none_passes p S h
] h

pub uncovered : (S : Program) (x : ℕ) → cover S x ≡ None → (k : Key) (c : Cell) → cell_at S k ≡ Some c → k.at ≤ x → x < k.at + unit_len c.value → ⊥
uncovered S x none k c here low high =
    both_ways (list_any (covers x) S) (none_passes (covers x) S none)
    (scanned (covers x) S (record { key = k; cell = c; here = here; passes = and_from (nat_le k.at x) _ (le-leb k.at x low) (lt-ltb x (k.at + unit_len c.value) high) }))

pub any_covers : (x : ℕ) (S : Program) → is_none (cover S x) ≡ false → list_any (covers x) S ≡ true
any_covers x [] h = absurd (true≢false h)
any_covers x (e ∷ es) h = elim (covers x e) as (λ b. is_none (option_map (λ (y : Key × Cell). y.0.at) (cond b (Some e) (first_where (covers x) es))) ≡ false → (b || list_any (covers x) es) ≡ true) [
  | true ↦ λ h. refl
  | false ↦ λ h. any_covers x es h
] h

-- a byte of a range that isn't free
pub unfree : (S : Program) (n t : ℕ) → is_free S t n ≡ false → (x : ℕ) × (t ≤ x) × (x < t + n) × (is_none (cover S x) ≡ false)
unfree S zero t h = absurd (true≢false h)
unfree S (suc n) t h = elim (cases_Bool (is_none (cover S t))) [
  | inr taken ↦ (t, omega arith, omega arith, taken)
  | inl free ↦
      let later : (x : ℕ) × (t + 1 ≤ x) × (x < t + 1 + n) × (is_none (cover S x) ≡ false) = unfree S n (t + 1) (sym (ap (λ b. b && is_free S (t + 1) n) free) ∙ h) in
      (later.0, omega (arith, later.1), omega (arith, later.2), later.3)
]
