-- Changes with nothing before that list a program without units fit in turn on the empty program, where each
-- cell suits its key and blocks are apart. Use `fits_plain` for a program that is `IsPlain`, and
-- `rising_keys` for the order of its keys.
use Rattle.std.proofs.Common.{◌≡◌, ℕ, ◌+◌, ◌<◌, ◌≤◌, Bool, true, false, cond, [], ◌∷◌, map, Option, Some, None, refl, sym, ap, ◌∙◌, inl, inr, arith}
use Rattle.std.specs.Prelude.{T}
use Rattle.std.specs.List.{AllByRecursion}
use Rattle.std.specs.List.Sorted.{IsStrictlySortedBy}
use Rattle.std.specs.declared.cmp.Ordering.{Ordering}
use Rattle.std.specs.declared.cmp.Ordering.TheVariants.{Less, Equal, Greater}
use Rattle.std.specs.Ordering.{is_lt}
use Rattle.std.specs.FinMap.Entries.{below_all}
use Rattle.std.proofs.lemmas.Option.{none-some}
use Rattle.rvd_fact.specs.declared.keys.Key.{Key}
use Rattle.rvd_fact.specs.declared.cells.Cell.{Cell}
use Rattle.rvd_fact.specs.declared.cells.Change.{Change}
use Rattle.rvd_fact.specs.declared.values.Value.TheVariants.{Code}
use Rattle.rvd_fact.specs.Order.{key_cmp, same_key}
use Rattle.rvd_fact.specs.Program.{Program, cell_at, placed, IsInOrder}
use Rattle.rvd_fact.specs.Memory.{unit_key, block_key, unit_len, block_len}
use Rattle.rvd_fact.specs.Valid.{IsValid, Fits, AreApart, suits, span, unit_span, block_span}
use Rattle.rvd_fact.proofs.KeyOrder.{cases_key, same_key_itself}
use Rattle.rvd_fact.proofs.Programs.{cell_at-placed, in_order-placed}
use Rattle.rvd_fact.proofs.Scans.{first, second, absent}
use Rattle.rvd_elf.specs.Facts.{changes_of}

-- a program without units that is valid
pub record IsPlain (S : Program) : Type 0 where
  pub in_order : IsInOrder S
  pub cells : (k : Key) (c : Cell) → cell_at S k ≡ Some c → suits k c ≡ true
  pub blocks_apart : AreApart (block_span S)
  pub no_units : (a : ℕ) (c : Cell) → cell_at S (unit_key a) ≡ Some c → ⊥

-- each cell of a program is one of another
abbrev pub IsPart : Program → Program → Type 0
IsPart P S = (q : Key) (c : Cell) → cell_at P q ≡ Some c → cell_at S q ≡ Some c

-- a cell is there or not
pub cases_cell : {Goal : Type 0} (o : Option Cell) → (o ≡ None → Goal) → ((c : Cell) → o ≡ Some c → Goal) → Goal
cases_cell None none some = none refl
cases_cell (Some c) none some = some c refl

module _ (S P : Program) (plain : IsPlain S) (order : IsInOrder P) (part : IsPart P S) where
  no_unit : (a : ℕ) → cell_at P (unit_key a) ≡ None
  no_unit a = cases_cell (cell_at P (unit_key a)) (λ e. e) (λ c e. absurd (plain.no_units a c (part (unit_key a) c e)))

  no_span : (a : ℕ) → unit_span P a ≡ 0
  no_span a = ap (span unit_len) (no_unit a)

  same_span : (a : ℕ) → 0 < block_span P a → block_span P a ≡ block_span S a
  same_span a lt =
      cases_cell (cell_at P (block_key a)) (λ e. absurd (let zero : block_span P a ≡ 0 = ap (span block_len) e in omega arith))
      (λ c e. ap (span block_len) (e ∙ sym (part (block_key a) c e)))

  blocks : AreApart (block_span P)
  blocks a b lt some_a some_b =
      let same_a = same_span a some_a in
      let same_b = same_span b some_b in
      let above : a + block_span S a ≤ b = plain.blocks_apart a b lt (omega (arith, some_a, same_a)) (omega (arith, some_b, same_b)) in
      omega (arith, above, same_a)

  pub valid_part : IsValid P
  valid_part = record {
    in_order = order;
    cells = λ k c e. plain.cells k c (part k c e);
    blocks_apart = blocks;
    units_apart = λ a b lt some_a some_b. absurd (let zero = no_span a in omega (arith, some_a, zero));
    in_a_block = λ a some. absurd (let zero = no_span a in omega (arith, some, zero));
    words = λ a w s e. absurd (none-some (record { value = Code w; source = s }) (sym (no_unit a) ∙ e));
  }

-- a key below all others is another key
apart_keys : (e : Key × Cell) (es : Program) (q : Key) (c : Cell) → T (below_all key_cmp e.0 es) → cell_at es q ≡ Some c → same_key q e.0 ≡ false
apart_keys e es q c below here = elim (cases_key q e.0) [
  | inl same ↦ absurd (none-some c (sym (absent e.0 es below) ∙ ap (cell_at es) (sym same) ∙ here))
  | inr other ↦ other
]

-- the entries that are still to be placed are of the whole, and not yet there
abbrev Awaits : Program → Program → Program → Type 0
Awaits S P es = (q : Key) (c : Cell) → cell_at es q ≡ Some c → (cell_at P q ≡ None) × (cell_at S q ≡ Some c)

fits_rest : (S P es : Program) → IsPlain S → IsInOrder P → IsPart P S → IsInOrder es → Awaits S P es → Fits P (changes_of es)
fits_rest S P [] plain order part rising awaits = tt
fits_rest S P (e ∷ es) plain order part rising awaits =
    let own = awaits e.0 e.1 (ap (λ (t : Bool). cond t (Some e.1) (cell_at es e.0)) (same_key_itself e.0)) in
    let order' = in_order-placed P e.0 (Some e.1) order in
    let part' : IsPart (placed P e.0 (Some e.1)) S = λ q c h. elim (cases_key q e.0) [
      | inl same ↦
          let here : Some e.1 ≡ Some c = sym (cell_at-placed P e.0 (Some e.1) q ∙ ap (λ (t : Bool). cond t (Some e.1) (cell_at P q)) (ap (λ (k : Key). same_key k e.0) same ∙ same_key_itself e.0)) ∙ h in
          ap (cell_at S) same ∙ own.1 ∙ here
      | inr other ↦ part q c (sym (cell_at-placed P e.0 (Some e.1) q ∙ ap (λ (t : Bool). cond t (Some e.1) (cell_at P q)) other) ∙ h)
    ] in
    let awaits' : Awaits S (placed P e.0 (Some e.1)) es = λ q c h.
    let other = apart_keys e es q c (first _ _ rising) h in
    let was = awaits q c (ap (λ (t : Bool). cond t (Some e.1) (cell_at es q)) other ∙ h) in
    (cell_at-placed P e.0 (Some e.1) q ∙ ap (λ (t : Bool). cond t (Some e.1) (cell_at P q)) other ∙ was.0, was.1) in
    (own.0, valid_part S (placed P e.0 (Some e.1)) plain order' part', fits_rest S (placed P e.0 (Some e.1)) es plain order' part' (second _ _ rising) awaits')

pub fits_plain : (S : Program) → IsPlain S → Fits [] (changes_of S)
fits_plain S plain = fits_rest S [] S plain tt (λ q c h. absurd (none-some c h)) plain.in_order (λ q c h. (refl, h))

less : (r : Ordering) → T (is_lt r) → r ≡ Less
less Less h = refl
less Equal h = absurd h
less Greater h = absurd h

above_all : (k : Key) (es : Program) → T (below_all key_cmp k es) → AllByRecursion (λ q. key_cmp k q ≡ Less) (map (λ (c : Change). c.key) (changes_of es))
above_all k [] h = tt
above_all k (e ∷ es) h = (less (key_cmp k e.0) (first _ _ h), above_all k es (second _ _ h))

-- the keys of a program's changes strictly rise
pub rising_keys : (S : Program) → IsInOrder S → IsStrictlySortedBy key_cmp (map (λ (c : Change). c.key) (changes_of S))
unfolding IsStrictlySortedBy
rising_keys [] h = tt
rising_keys (e ∷ es) h = (above_all e.0 es (first _ _ h), rising_keys es (second _ _ h))
