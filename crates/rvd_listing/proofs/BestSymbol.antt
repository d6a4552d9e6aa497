-- What the best symbol of an address is: the first one of the highest source. Use `primary_law` for what the
-- primary name means.
use Rattle.std.proofs.Common.{◌≡◌, ℕ, zero, suc, ◌<◌, ◌≤◌, Bool, true, false, cond, ◌&&◌, Option, Some, None, IfSome, IfNone, List, refl, sym, ap, ◌∙◌, subst, inl, inr, ◌⊎◌, arith}
use Rattle.std.specs.Prelude.{nat_lt}
use Rattle.std.specs.Option.{option_and_then}
use Rattle.std.proofs.Math.Nat.{eq-or-lt_of_le}
use Rattle.std.proofs.lemmas.Bool.{false≢true, ltb-true}
use Rattle.std.proofs.lemmas.Bool.Decides.{nat_tests}
use Rattle.std.proofs.lemmas.Option.{none-some, same_Some}
use Rattle.rvd_fact.specs.declared.cells.Cell.{Cell}
use Rattle.rvd_fact.specs.declared.values.Value.{Value}
use Rattle.rvd_fact.specs.declared.values.Value.TheVariants.{Block, Mark, Func, Body, Symbol, Comment, Bookmark, Code, Plain, Ref, Gone}
use Rattle.rvd_fact.specs.Program.{Program, cell_at}
use Rattle.rvd_listing.specs.Names.{symbol_key, slots, priority, name_of, is_symbol, best_below, better, IsPrimary, HasNoSymbol, PrimaryLaw}

-- the best symbol of the slots below n
record IsBest (S : Program) (a n : ℕ) (c : Cell) : Type 0 where
  slot : ℕ
  within : slot < n
  here : cell_at S (symbol_key a slot) ≡ Some c
  symbol : is_symbol c.value ≡ true
  highest : (t : ℕ) (d : Cell) → t < n → cell_at S (symbol_key a t) ≡ Some d → is_symbol d.value ≡ true → priority d.source ≤ priority c.source
  lowest : (t : ℕ) (d : Cell) → t < n → cell_at S (symbol_key a t) ≡ Some d → is_symbol d.value ≡ true → priority d.source ≡ priority c.source → slot ≤ t

-- the slots below n have no symbol
abbrev IsBare : Program → ℕ → ℕ → Type 0
IsBare S a n = (t : ℕ) (d : Cell) → t < n → cell_at S (symbol_key a t) ≡ Some d → is_symbol d.value ≡ true → ⊥

abbrev Tells : Program → ℕ → ℕ → Option Cell → Type 0
Tells S a n None = IsBare S a n
Tells S a n (Some c) = IsBest S a n c

-- a slot below n + 1 is below n, or n itself
earlier : (t n : ℕ) → t < suc n → (t ≡ n) ⊎ (t < n)
earlier t n h = let le : t ≤ n = omega arith in eq-or-lt_of_le {n = t} {m = n} le

-- at the slot n
at_slot : (S : Program) (a t n : ℕ) (o : Option Cell) (d : Cell) → t ≡ n → cell_at S (symbol_key a n) ≡ o → cell_at S (symbol_key a t) ≡ Some d → o ≡ Some d
at_slot S a t n o d same here there = sym here ∙ ap (λ (x : ℕ). cell_at S (symbol_key a x)) (sym same) ∙ there

-- one more slot that has no symbol
bare_more : (S : Program) (a n : ℕ) (o : Option Cell) → cell_at S (symbol_key a n) ≡ o → ((d : Cell) → o ≡ Some d → is_symbol d.value ≡ true → ⊥) → IsBare S a n → IsBare S a (suc n)
bare_more S a n o here none bare t d below there symbol =
    elim (earlier t n below) [
      | inl same ↦ none d (at_slot S a t n o d same here there) symbol
      | inr before ↦ bare t d before there symbol
    ]

best_more : (S : Program) (a n : ℕ) (o : Option Cell) (c : Cell) → cell_at S (symbol_key a n) ≡ o → ((d : Cell) → o ≡ Some d → is_symbol d.value ≡ true → priority d.source ≤ priority c.source)
    → IsBest S a n c → IsBest S a (suc n) c
best_more S a n o c here weak best =
    record {
      slot = best.slot;
      within = let w : best.slot < n = best.within in omega arith;
      here = best.here;
      symbol = best.symbol;
      highest = λ t d below there symbol. elim (earlier t n below) [
        | inl same ↦ weak d (at_slot S a t n o d same here there) symbol
        | inr before ↦ best.highest t d before there symbol
      ];
      lowest = λ t d below there symbol equal. elim (earlier t n below) [
        | inl same ↦ let w : best.slot < n = best.within in omega arith
        | inr before ↦ best.lowest t d before there symbol equal
      ];
    }

-- a symbol at the slot n that all before it are below
best_new : (S : Program) (a n : ℕ) (c : Cell) → cell_at S (symbol_key a n) ≡ Some c → is_symbol c.value ≡ true
    → ((t : ℕ) (d : Cell) → t < n → cell_at S (symbol_key a t) ≡ Some d → is_symbol d.value ≡ true → priority d.source < priority c.source) → IsBest S a (suc n) c
best_new S a n c here is above =
    record {
      slot = n;
      within = omega arith;
      here = here;
      symbol = is;
      highest = λ t d below there symbol. elim (earlier t n below) [
        | inl same ↦ let e : c ≡ d = same_Some c d (at_slot S a t n (Some c) d same here there) in let r : priority d.source ≡ priority c.source = ap (λ (x : Cell). priority x.source) (sym e) in omega arith
        | inr before ↦ let l : priority d.source < priority c.source = above t d before there symbol in omega arith
      ];
      lowest = λ t d below there symbol equal. elim (earlier t n below) [
        | inl same ↦ omega arith
        | inr before ↦ let l : priority d.source < priority c.source = above t d before there symbol in absurd (omega arith)
      ];
    }

not_less : (x y : ℕ) → nat_lt x y ≡ false → y ≤ x
not_less x y h = grind (arith, nat_tests)

and_false : (b : Bool) → (true && b) ≡ false → b ≡ false
and_false b h = h

-- one more slot
tells_more : (S : Program) (a n : ℕ) (best o : Option Cell) → cell_at S (symbol_key a n) ≡ o → Tells S a n best → Tells S a (suc n) (better best o)
tells_more S a n None None here bare = bare_more S a n None here (λ d e _. none-some d e) bare
tells_more S a n (Some b) None here best = best_more S a n None b here (λ d e _. absurd (none-some d e)) best
tells_more S a n None (Some c) here bare =
    elim (is_symbol c.value) as (λ k. is_symbol c.value ≡ k → Tells S a (suc n) (cond k (Some c) None)) [
      | true ↦ λ is. best_new S a n c here is (λ t d below there symbol. absurd (bare t d below there symbol))
      | false ↦ λ no. bare_more S a n (Some c) here (λ d e symbol. false≢true (sym no ∙ ap (λ (x : Cell). is_symbol x.value) (same_Some c d e) ∙ symbol)) bare
    ] refl
tells_more S a n (Some b) (Some c) here best =
    elim (is_symbol c.value) as (λ k. is_symbol c.value ≡ k → Tells S a (suc n) (cond (k && nat_lt (priority b.source) (priority c.source)) (Some c) (Some b))) [
      | false ↦ λ no. best_more S a n (Some c) b here (λ d e symbol. absurd (false≢true (sym no ∙ ap (λ (x : Cell). is_symbol x.value) (same_Some c d e) ∙ symbol))) best
      | true ↦ λ is. elim (nat_lt (priority b.source) (priority c.source)) as (λ k. nat_lt (priority b.source) (priority c.source) ≡ k → Tells S a (suc n) (cond k (Some c) (Some b))) [
        | true ↦ λ less.
            let l : priority b.source < priority c.source = ltb-true (priority b.source) (priority c.source) less in
            best_new S a n c here is (λ t d below there symbol. let h : priority d.source ≤ priority b.source = best.highest t d below there symbol in omega arith)
        | false ↦ λ no.
            let l : priority c.source ≤ priority b.source = not_less (priority b.source) (priority c.source) no in
            best_more S a n (Some c) b here (λ d e symbol. let r : priority c.source ≡ priority d.source = ap (λ (x : Cell). priority x.source) (same_Some c d e) in omega arith) best
      ] refl
    ] refl

tells : (S : Program) (a n : ℕ) → Tells S a n (best_below S a n)
unfolding best_below
tells S a zero = λ t d below there symbol. absurd (omega arith)
tells S a (suc n) = tells_more S a n (best_below S a n) (cell_at S (symbol_key a n)) refl (tells S a n)

-- a symbol's value
named : (v : Value) → is_symbol v ≡ true → (name : List ℕ) × (v ≡ Symbol name) × (name_of v ≡ Some name)
named (Symbol name) h = (name, refl, refl)
named (Block len perm bytes) h = absurd (false≢true h)
named Mark h = absurd (false≢true h)
named Func h = absurd (false≢true h)
named (Body s) h = absurd (false≢true h)
named (Comment t) h = absurd (false≢true h)
named (Bookmark t) h = absurd (false≢true h)
named (Code w) h = absurd (false≢true h)
named (Plain f) h = absurd (false≢true h)
named (Ref to class) h = absurd (false≢true h)
named Gone h = absurd (false≢true h)

some_law : (S : Program) (a : ℕ) (o : Option Cell) → Tells S a slots o → IfSome (option_and_then (λ (c : Cell). name_of c.value) o) (IsPrimary S a)
some_law S a None bare = tt
some_law S a (Some c) best =
    let n = named c.value best.symbol in
    subst (λ (o : Option (List ℕ)). IfSome o (IsPrimary S a)) (sym n.2) (record {
      slot = best.slot;
      source = c.source;
      within = best.within;
      here = best.here ∙ ap (λ (v : Value). Some (record { value = v; source = c.source })) n.1;
      highest = λ t m s below there. best.highest t (record { value = Symbol m; source = s }) below there refl;
      lowest = λ t m below there. best.lowest t (record { value = Symbol m; source = c.source }) below there refl refl;
    })

none_law : (S : Program) (a : ℕ) (o : Option Cell) → Tells S a slots o → IfNone (option_and_then (λ (c : Cell). name_of c.value) o) (HasNoSymbol S a)
none_law S a None bare = λ t m s below there. bare t (record { value = Symbol m; source = s }) below there refl
none_law S a (Some c) best = let n = named c.value best.symbol in subst (λ (o : Option (List ℕ)). IfNone o (HasNoSymbol S a)) (sym n.2) tt

pub primary_law : PrimaryLaw
primary_law = record {
  some = λ S a. some_law S a (best_below S a slots) (tells S a slots);
  none = λ S a. none_law S a (best_below S a slots) (tells S a slots);
}
