-- The slots for symbols of an address, in the order of keys. Use `next_symbol` and `no_symbol` for what the
-- entry of the least key that isn't below a slot tells of the slots from there on.
use Rattle.std.proofs.Common.{◌≡◌, ℕ, ◌<◌, ◌≤◌, Option, Some, None, IfSome, refl, sym, ap, ◌∙◌, subst, inl, inr, ◌⊎◌, arith}
use Rattle.std.specs.Prelude.{T}
use Rattle.std.specs.declared.cmp.Ordering.{Ordering}
use Rattle.std.specs.declared.cmp.Ordering.TheVariants.{Less, Equal, Greater}
use Rattle.std.specs.Ordering.{is_le, nat_cmp, ordering_then}
use Rattle.std.specs.Cmp.{nat_cmp_is}
use Rattle.std.proofs.lemmas.Cmp.{ranked}
use Rattle.std.proofs.lemmas.Option.{none-some}
use Rattle.rvd_table.specs.Table.{IsNext}
use Rattle.rvd_table.proofs.MapLaws.{next_entry-nearest}
use Rattle.rvd_fact.specs.declared.keys.Kind.TheVariants as kind
use Rattle.rvd_fact.specs.declared.keys.Key.{Key}
use Rattle.rvd_fact.specs.declared.cells.Cell.{Cell}
use Rattle.rvd_fact.specs.Order.{rank, key_cmp}
use Rattle.rvd_fact.specs.Program.{Program, cell_at}
use Rattle.rvd_fact.specs.Valid.{IsValid}
use Rattle.rvd_fact.proofs.KeyOrder.{keys_total, same_kind}
use Rattle.rvd_program.specs.Lookup.{next_entry}
use Rattle.rvd_listing.specs.Names.{symbol_key, slots}
use Rattle.rvd_listing.specs.Answers.{HasNoCellFrom, IsNextSymbol, IsNoSlot}

-- the first numbers decide, or the rest does
le_then : (x y : ℕ) (o : Ordering) → T (is_le (ordering_then (nat_cmp x y) o)) → (x < y) ⊎ ((x ≡ y) × T (is_le o))
le_then x y o h =
    elim (nat_cmp x y) as (λ r. r ≡ nat_cmp x y → T (is_le (ordering_then r o)) → (x < y) ⊎ ((x ≡ y) × T (is_le o))) [
      | Less ↦ λ e _. inl (ranked x y Less e)
      | Equal ↦ λ e t. inr (ranked x y Equal e, t)
      | Greater ↦ λ e t. absurd t
    ] refl h

le_of : (x y : ℕ) → T (is_le (nat_cmp x y)) → x ≤ y
le_of x y h =
    elim (nat_cmp x y) as (λ r. r ≡ nat_cmp x y → T (is_le r) → x ≤ y) [
      | Less ↦ λ e _. let below : x < y = ranked x y Less e in omega arith
      | Equal ↦ λ e _. let same : x ≡ y = ranked x y Equal e in omega arith
      | Greater ↦ λ e t. absurd t
    ] refl h

-- what lies between a number and itself
both : (x y : ℕ) (o p : Ordering) → T (is_le (ordering_then (nat_cmp x y) o)) → T (is_le (ordering_then (nat_cmp y x) p)) → (x ≡ y) × T (is_le o) × T (is_le p)
both x y o p low high =
    elim (le_then x y o low) [
      | inl below ↦ elim (le_then y x p high) [ inl above ↦ absurd (omega arith) | inr same ↦ let e : y ≡ x = same.0 in absurd (omega arith) ]
      | inr here ↦ elim (le_then y x p high) [ inl above ↦ let e : x ≡ y = here.0 in absurd (omega arith) | inr same ↦ (here.0, here.1, same.1) ]
    ]

-- a slot of an address
pub record IsSlot (a s t : ℕ) (k : Key) : Type 0 where
  pub is : k ≡ symbol_key a k.sub
  pub from : s ≤ k.sub
  pub up_to : k.sub ≤ t

-- a key between two slots of an address is one of them
between : (a s t : ℕ) (k : Key) → T (is_le (key_cmp (symbol_key a s) k)) → T (is_le (key_cmp k (symbol_key a t))) → IsSlot a s t k
between a s t k low high =
    let at_both = both a k.at (ordering_then (nat_cmp 4 (rank k.kind)) (nat_cmp s k.sub)) (ordering_then (nat_cmp (rank k.kind) 4) (nat_cmp k.sub t)) low high in
    let kind_both = both 4 (rank k.kind) (nat_cmp s k.sub) (nat_cmp k.sub t) at_both.1 at_both.2 in
    let same : k.kind ≡ kind.Symbol = same_kind k.kind kind.Symbol (sym kind_both.0) in
    record { is = λ i. record { at = sym at_both.0 i; kind = same i; sub = k.sub }; from = le_of s k.sub kind_both.1; up_to = le_of k.sub t kind_both.2 }

le_numbers : (x y : ℕ) → x ≤ y → T (is_le (nat_cmp x y))
le_numbers x y l =
    elim (nat_cmp x y) as (λ r. r ≡ nat_cmp x y → T (is_le r)) [
      | Less ↦ λ _. tt
      | Equal ↦ λ _. tt
      | Greater ↦ λ e. let above : y < x = ranked x y Greater e in absurd (omega arith)
    ] refl

-- slots are in the order of their numbers
le_slots : (a s t : ℕ) → s ≤ t → T (is_le (key_cmp (symbol_key a s) (symbol_key a t)))
le_slots a s t h = subst (λ r. T (is_le (ordering_then r (nat_cmp s t)))) (nat_cmp_is a a Equal refl) (le_numbers s t h)

slots_le : (a s t : ℕ) → T (is_le (key_cmp (symbol_key a s) (symbol_key a t))) → s ≤ t
slots_le a s t h =
    elim (le_then a a (nat_cmp s t) h) [
      | inl below ↦ absurd (omega arith)
      | inr same ↦ le_of s t same.1
    ]

-- where a cell is refused at a key, there is none
none_there : (o : Option Cell) → ((v : Cell) → o ≡ Some v → ⊥) → o ≡ None
none_there None h = refl
none_there (Some v) h = absurd (h v refl)

clash : (S : Program) (a slot t : ℕ) (answer : Option (Key × Cell)) → slot ≤ t → t < slots → IsNext key_cmp (symbol_key a slot) S answer → IfSome answer (λ e. IsNoSlot a e.0)
    → (v : Cell) → cell_at S (symbol_key a t) ≡ Some v → ⊥
clash S a slot t None low high n other v found = none-some v (sym (n.none (symbol_key a t) (le_slots a slot t low)) ∙ found)
clash S a slot t (Some e) low high n other v found =
    let here : IsSlot a slot t e.0 = between a slot t e.0 n.held.1 (n.nearest (symbol_key a t) v found (le_slots a slot t low)) in
    other e.0.sub (omega arith) here.is

-- the entry of the least key that isn't below a slot is the nearest one
nearest : (S : Program) (a slot : ℕ) (k : Key) (answer : Option (Key × Cell)) → IsValid S → k ≡ symbol_key a slot → answer ≡ next_entry S k → IsNext key_cmp (symbol_key a slot) S answer
nearest S a slot k answer valid is next =
    subst (IsNext key_cmp (symbol_key a slot) S) (sym (next ∙ ap (next_entry S) is)) (next_entry-nearest key_cmp keys_total (symbol_key a slot) S valid.in_order)

-- the slots from one on are empty where the next entry is no slot of the address
pub no_symbol : (S : Program) (a slot : ℕ) (k : Key) (answer : Option (Key × Cell)) → IsValid S → k ≡ symbol_key a slot → answer ≡ next_entry S k
    → IfSome answer (λ e. IsNoSlot a e.0) → HasNoCellFrom S a slot slots
no_symbol S a slot k answer valid is next other t low high =
    none_there (cell_at S (symbol_key a t)) (clash S a slot t answer low high (nearest S a slot k answer valid is next) other)

-- where the next entry is a slot of the address, it is the first one that has a cell
pub next_symbol : (S : Program) (a slot : ℕ) (k e : Key) (c : Cell) (found : ℕ) → IsValid S → k ≡ symbol_key a slot → Some (e, c) ≡ next_entry S k → e ≡ symbol_key a found → found < slots
    → IsNextSymbol S a slot found c
next_symbol S a slot k e c found valid is next here within =
    let n : IsNext key_cmp (symbol_key a slot) S (Some (e, c)) = nearest S a slot k (Some (e, c)) valid is next in
    record {
      from = slots_le a slot found (subst (λ (q : Key). T (is_le (key_cmp (symbol_key a slot) q))) here n.held.1);
      within = within;
      here = sym (ap (cell_at S) here) ∙ n.held.0;
      none = λ t low high. none_there (cell_at S (symbol_key a t)) (λ v at_t.
          let above : found ≤ t = slots_le a found t (subst (λ (q : Key). T (is_le (key_cmp q (symbol_key a t)))) here (n.nearest (symbol_key a t) v at_t (le_slots a slot t low))) in
          absurd (omega arith));
    }
