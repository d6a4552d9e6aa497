-- Lists of items by their members: what `add_items` and `ordered` make. Use `from_set` for a list that a set in order was
-- made of, `has_item-at` for an analyzer's items at some places, and `within` for places that are addresses.
use Rattle.std.proofs.Common.{◌≡◌, ℕ, ◌<◌, Bool, true, false, ◌&&◌, ◌||◌, List, [], ◌∷◌, map, refl, sym, ap, ◌∙◌, subst, inl, inr, arith}
use Rattle.std.specs.Prelude.{nat_lt, ◌==◌}
use Rattle.std.specs.List.{list_all, All}
use Rattle.std.proofs.lemmas.List.Elements.{All-head, All-tail}
use Rattle.std.specs.declared.cmp.Ordering.{Ordering}
use Rattle.std.specs.declared.cmp.Ordering.TheVariants.{Equal, Greater}
use Rattle.std.specs.Ordering.{is_eq, nat_cmp, ordering_then}
use Rattle.std.specs.List.Sorted.{IsStrictlySortedBy}
use Rattle.std.specs.BTreeSet.{BTreeSet, IsFromIterResult}
use Rattle.std.proofs.Math.Bool.{and-false, and-or_distrib_left}
use Rattle.std.proofs.lemmas.Bool.{and_from, or_cases, eqb-true, false_from_ne_true, lt-ltb, le-ltb, cases_lt}
use Rattle.std.proofs.lemmas.Bool.Decides.{nat_tests}
use Rattle.rvd_ask.specs.declared.asks.Analyzer.{Analyzer}
use Rattle.rvd_ask.specs.declared.asks.Item.{Item}
use Rattle.rvd_ask.specs.contracts.asks.ItemOrd.TheImpl.{cmp-value}
use Rattle.rvd_ask.specs.Order.{item_cmp, priority, same_item}
use Rattle.rvd_ask.specs.Unsettled.{are_in_order, comes_before, has_item, same_analyzer}
use Rattle.rvd_ask.specs.Wake.{item}
use Rattle.rvd_ask.proofs.ItemOrder.{derived_is, all_before}
use Rattle.rvd_wake.specs.Walks.{Orders, has_place, is_at}
use Rattle.rvd_ask.proofs.Listings.{then_is}

in_order : (items : List Item) → IsStrictlySortedBy item_cmp items → are_in_order items ≡ true
unfolding IsStrictlySortedBy
in_order [] h = refl
in_order (i ∷ items) h = and_from (list_all (comes_before i) items) (are_in_order items) (all_before i items h.0) (in_order items h.1)

-- the items of a set that was made of a list
pub from_set : (items list : List Item) (set : BTreeSet Item) → IsFromIterResult cmp-value.it items set → list ≡ set.keys → Orders items list
from_set items list set made same =
    let own : IsFromIterResult item_cmp items set = subst (λ (cmp : Item → Item → Ordering). IsFromIterResult cmp items set) derived_is made in
    record {
      in_order = ap are_in_order same ∙ in_order set.keys own.1;
      members = λ i. ap (has_item i) same ∙ own.0 i;
    }

is_eq-nat_cmp : (x y : ℕ) → is_eq (nat_cmp x y) ≡ (y == x)
is_eq-nat_cmp x y = grind (arith, nat_tests)

-- whether an item is an analyzer's at an address
same_is : (i : Item) (a : Analyzer) (p : ℕ) → same_item i (item a p) ≡ (same_analyzer a i.analyzer && p == i.at)
same_is i a p = then_is (nat_cmp (priority i.analyzer) (priority a)) (nat_cmp i.at p) ∙ (λ k. is_eq-nat_cmp (priority i.analyzer) (priority a) k && is_eq-nat_cmp i.at p k)

pub has_item-at : (a : Analyzer) (places : List ℕ) (i : Item) → has_item i (map (item a) places) ≡ is_at a places i
has_item-at a [] i = sym (and-false (same_analyzer a i.analyzer))
has_item-at a (p ∷ places) i = (λ k. same_is i a p k || has_item-at a places i k) ∙ sym (and-or_distrib_left (same_analyzer a i.analyzer) (p == i.at) (has_place i.at places))

-- a place is an address
is_below : (n a : ℕ) (places : List ℕ) → All (λ p. p < n) places → has_place a places ≡ true → a < n
is_below n a [] all has = absurd (search arith)
is_below n a (p ∷ places) all has = elim (or_cases (p == a) (has_place a places) has) [
  | inl here ↦ subst (λ (x : ℕ). x < n) (eqb-true p a here) (All-head (λ p. p < n) p places all)
  | inr later ↦ is_below n a places (All-tail (λ p. p < n) p places all) later
]

-- at any number: places that are addresses are just those addresses that pass
pub within : (n : ℕ) (test : ℕ → Bool) (places : List ℕ) → ((a : ℕ) → a < n → has_place a places ≡ test a) → All (λ p. p < n) places → (a : ℕ) → has_place a places ≡ (nat_lt a n && test a)
within n test places just all a = elim (cases_lt a n) [
  | inl below ↦ just a below ∙ sym (ap (λ b. b && test a) (lt-ltb a n below))
  | inr above ↦ false_from_ne_true (has_place a places) (λ has. let below : a < n = is_below n a places all has in omega arith) ∙ sym (ap (λ b. b && test a) (le-ltb a n above))
]
