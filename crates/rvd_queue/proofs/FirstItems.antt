-- The queued items from a start on: where none before it is queued, these are all of them. Use `queued_from` for a range of
-- cells, and `from_first` for a later start.
use Rattle.std.proofs.Common.{◌≡◌, ℕ, suc, ◌+◌, ◌<◌, get_or, Bool, true, false, cond, not, ◌&&◌, List, [], ◌∷◌, length, filter, map, take, slice_get, Some, None, refl, sym, ap, ◌∙◌, subst, inl, inr, arith}
use Rattle.std.proofs.lemmas.Bool.{and_from, and_parts, not-true, not_from_false, or_cases, or_left, or_right}
use Rattle.std.proofs.lemmas.Bool.Decides.{nat_tests}
use Rattle.std.proofs.lemmas.Cmp.{tied_itself, upto}
use Rattle.std.proofs.lemmas.List.Folds.{list_all_more, list_any_kept, list_any_more}
use Rattle.std.proofs.lemmas.List.{take-map}
use Rattle.std.proofs.lemmas.Map.Keys.{sorted_head}
use Rattle.std.specs.BTreeMap.Range.{entries_between, range_contains}
use Rattle.std.specs.declared.ops.Bound.TheVariants.{Included, Unbounded}
use Rattle.std.specs.declared.cmp.Ordering.{Ordering}
use Rattle.std.specs.declared.cmp.Ordering.TheVariants.{Less, Equal, Greater}
use Rattle.std.specs.List.{AllByRecursion, list_all, find}
use Rattle.std.specs.Map.{keys_of, values_of}
use Rattle.std.specs.Option.{option_map}
use Rattle.std.specs.Ordering.{is_gt, is_le, is_lt, match_ordering, ordering_reverse}
use Rattle.rvd_ask.specs.contracts.asks.ItemOrd.TheImpl.{cmp-value}
use Rattle.rvd_ask.specs.declared.asks.Analyzer.{Analyzer}
use Rattle.rvd_ask.specs.declared.asks.Analyzer.TheVariants.{Flow, Refs, Funcs, Body, Strings}
use Rattle.rvd_ask.specs.declared.asks.Item.{Item}
use Rattle.rvd_ask.specs.Order.{item_cmp, same_item}
use Rattle.rvd_ask.specs.Unsettled.{has_item, same_analyzer}
use Rattle.rvd_ask.proofs.ItemOrder.{items_total, derived_is, same_item_itself}
use Rattle.rvd_queue.specs.declared.cells.Cell.{Cell}
use Rattle.rvd_queue.specs.Cells.{is_from, is_queued, items_where, queued_in}
use Rattle.rvd_queue.specs.Sets.{with, with_all, without_analyzer}
use Rattle.rvd_queue.proofs.ItemSets.{Sorted}
use Rattle.rvd_queue.proofs.Members.{Cells}

le_from_not_lt : (r : Ordering) → not (is_lt (ordering_reverse r)) ≡ true → (is_le r && true) ≡ true
le_from_not_lt Less h = refl
le_from_not_lt Equal h = refl
le_from_not_lt Greater h = h

within_is : (start i : Item) → is_from start i ≡ true → range_contains item_cmp (Included start) Unbounded i ≡ true
within_is start i h = le_from_not_lt (item_cmp start i) (ap (λ r. not (is_lt r)) (sym (items_total.antisymm i start)) ∙ h)

pub queued_from : (start : Item) (cells : Cells) → list_all (is_from start) (queued_in cells) ≡ true → queued_in (entries_between item_cmp (Included start) Unbounded cells) ≡ queued_in cells
queued_from start [] h = refl
queued_from start (e ∷ cells) h = elim e.1.queued as (λ q. e.1.queued ≡ q → list_all (is_from start) (keys_of (cond q (e ∷ filter (λ c. c.1.queued) cells) (filter (λ c. c.1.queued) cells))) ≡ true → queued_in (cond (range_contains item_cmp (Included start) Unbounded e.0) (e ∷ entries_between item_cmp (Included start) Unbounded cells) (entries_between item_cmp (Included start) Unbounded cells)) ≡ keys_of (cond q (e ∷ filter (λ c. c.1.queued) cells) (filter (λ c. c.1.queued) cells))) [
  | true ↦ λ is all.
      let parts = and_parts (is_from start e.0) (list_all (is_from start) (queued_in cells)) all in
      ap (λ b. queued_in (cond b (e ∷ entries_between item_cmp (Included start) Unbounded cells) (entries_between item_cmp (Included start) Unbounded cells))) (within_is start e.0 parts.0)
      ∙ ap (λ b. keys_of (cond b (e ∷ filter (λ c. c.1.queued) (entries_between item_cmp (Included start) Unbounded cells)) (filter (λ c. c.1.queued) (entries_between item_cmp (Included start) Unbounded cells)))) is
      ∙ ap (λ (items : List Item). e.0 ∷ items) (queued_from start cells parts.1)
  | false ↦ λ is all.
      (elim (range_contains item_cmp (Included start) Unbounded e.0) as (λ b. queued_in (cond b (e ∷ entries_between item_cmp (Included start) Unbounded cells) (entries_between item_cmp (Included start) Unbounded cells)) ≡ queued_in (entries_between item_cmp (Included start) Unbounded cells)) [
        | true ↦ ap (λ b. keys_of (cond b (e ∷ filter (λ c. c.1.queued) (entries_between item_cmp (Included start) Unbounded cells)) (filter (λ c. c.1.queued) (entries_between item_cmp (Included start) Unbounded cells)))) is
        | false ↦ refl
      ])
      ∙ queued_from start cells all
] refl h

-- how many pass a test
pub count_where : (test : Cell → Bool) (cells : Cells) → length (filter test (values_of cells)) ≡ length (items_where test cells)
count_where test [] = refl
count_where test (e ∷ cells) = elim (test e.1) as (λ q. length (cond q (e.1 ∷ filter test (values_of cells)) (filter test (values_of cells))) ≡ length (keys_of (cond q (e ∷ filter (λ c. test c.1) cells) (filter (λ c. test c.1) cells)))) [
  | true ↦ ap suc (count_where test cells)
  | false ↦ count_where test cells
]

-- how many are queued, and how many of these aren't an analyzer's
pub count_is : (cells : Cells) → length (filter is_queued (values_of cells)) ≡ length (queued_in cells)
count_is cells = count_where is_queued cells

abbrev pub is_other : Analyzer → Item × Cell → Bool
is_other a e = e.1.queued && not (same_analyzer a e.0.analyzer)

pub others_are : (a : Analyzer) (cells : Cells) → length (filter (is_other a) cells) ≡ length (without_analyzer a (queued_in cells))
others_are a [] = refl
others_are a (e ∷ cells) = elim e.1.queued as (λ q. length (cond (q && not (same_analyzer a e.0.analyzer)) (e ∷ filter (is_other a) cells) (filter (is_other a) cells)) ≡ length (without_analyzer a (keys_of (cond q (e ∷ filter (λ c. c.1.queued) cells) (filter (λ c. c.1.queued) cells))))) [
  | true ↦ elim (not (same_analyzer a e.0.analyzer)) as (λ q. length (cond q (e ∷ filter (is_other a) cells) (filter (is_other a) cells)) ≡ length (cond q (e.0 ∷ without_analyzer a (queued_in cells)) (without_analyzer a (queued_in cells)))) [
    | true ↦ ap suc (others_are a cells)
    | false ↦ others_are a cells
  ]
  | false ↦ others_are a cells
]

-- the least n of them, from the cells of a range
pub least_is : (start : Item) (n : ℕ) (cells : Cells) → list_all (is_from start) (queued_in cells) ≡ true → map (λ (e : Item × Cell). e.0) (take n (filter (λ e. e.1.queued) (entries_between cmp-value.it (Included start) Unbounded cells))) ≡ take n (queued_in cells)
least_is start n cells none =
    sym (take-map (λ (e : Item × Cell). e.0) n (filter (λ e. e.1.queued) (entries_between cmp-value.it (Included start) Unbounded cells)))
    ∙ ap (λ (R : Item → Item → Ordering). take n (queued_in (entries_between R (Included start) Unbounded cells))) derived_is
    ∙ ap (take n) (queued_from start cells none)

-- the first of them
pub first_is : (start : Item) (cells : Cells) → list_all (is_from start) (queued_in cells) ≡ true → option_map (λ (e : Item × Cell). e.0) (find (λ (e : Item × Cell). e.1.queued) (entries_between cmp-value.it (Included start) Unbounded cells)) ≡ slice_get (queued_in cells) 0
first_is start cells none =
    head_is (entries_between cmp-value.it (Included start) Unbounded cells)
    ∙ ap (λ (R : Item → Item → Ordering). slice_get (queued_in (entries_between R (Included start) Unbounded cells)) 0) derived_is
    ∙ ap (λ (items : List Item). slice_get items 0) (queued_from start cells none)
  where
    head_is : (some : Cells) → option_map (λ (e : Item × Cell). e.0) (find (λ (e : Item × Cell). e.1.queued) some) ≡ slice_get (queued_in some) 0
    head_is [] = refl
    head_is (e ∷ some) = elim e.1.queued as (λ q. option_map (λ (d : Item × Cell). d.0) (cond q (Some e) (find (λ (d : Item × Cell). d.1.queued) some)) ≡ slice_get (keys_of (cond q (e ∷ filter (λ d. d.1.queued) some) (filter (λ d. d.1.queued) some))) 0) [
      | true ↦ refl
      | false ↦ head_is some
    ]

-- ---- where a start stands: no item of a list comes before it
module _ (p : Item → Bool) where
  pub all_left : (test : Item → Bool) (items : List Item) → list_all p items ≡ true → list_all p (filter test items) ≡ true
  all_left test [] all = refl
  all_left test (i ∷ items) all =
      let parts = and_parts (p i) (list_all p items) all in
      elim (test i) as (λ b. list_all p (cond b (i ∷ filter test items) (filter test items)) ≡ true) [
        | true ↦ and_from (p i) (list_all p (filter test items)) parts.0 (all_left test items parts.1)
        | false ↦ all_left test items parts.1
      ]

  all_with : (i : Item) (items : List Item) → p i ≡ true → list_all p items ≡ true → list_all p (with i items) ≡ true
  all_with i [] here all = and_from (p i) true here refl
  all_with i (j ∷ items) here all =
      let parts = and_parts (p j) (list_all p items) all in
      elim (item_cmp i j) as (λ r. list_all p (match_ordering r (i ∷ j ∷ items) (j ∷ items) (j ∷ with i items)) ≡ true) [
        | Less ↦ and_from (p i) (list_all p (j ∷ items)) here all
        | Equal ↦ all
        | Greater ↦ and_from (p j) (list_all p (with i items)) parts.0 (all_with i items here parts.1)
      ]

  pub all_with_all : (more items : List Item) → list_all p more ≡ true → list_all p items ≡ true → list_all p (with_all more items) ≡ true
  all_with_all [] items those all = all
  all_with_all (i ∷ more) items those all =
      let parts = and_parts (p i) (list_all p more) those in
      all_with_all more (with i items) parts.1 (all_with i items parts.0 all)

  pub all_weaker : (q : Item → Bool) → ((i : Item) → q i ≡ true → p i ≡ true) → (items : List Item) → list_all q items ≡ true → list_all p items ≡ true
  all_weaker q weaker [] all = refl
  all_weaker q weaker (i ∷ items) all =
      let parts = and_parts (q i) (list_all q items) all in
      and_from (p i) (list_all p items) (weaker i parts.0) (all_weaker q weaker items parts.1)

-- the first of a set
from_head : (i : Item) (items : List Item) → AllByRecursion (λ j. item_cmp i j ≡ Less) items → list_all (is_from i) items ≡ true
from_head i [] all = refl
from_head i (j ∷ items) all = and_from (is_from i j) (list_all (is_from i) items) (ap (λ r. not (is_lt r)) (items_total.antisymm j i ∙ ap ordering_reverse all.0)) (from_head i items all.1)

from_itself : (i : Item) → is_from i i ≡ true
from_itself i = ap (λ r. not (is_lt r)) (tied_itself items_total i)

pub from_first : (i : Item) (items : List Item) → Sorted items → Some i ≡ slice_get items 0 → list_all (is_from i) items ≡ true
from_first i [] s h = refl
from_first i (j ∷ items) s h =
    let all : list_all (is_from j) (j ∷ items) ≡ true = and_from (is_from j j) (list_all (is_from j) items) (from_itself j) (from_head j items (sorted_head item_cmp j items s)) in
    let same : j ≡ i = sym (cc) in
    subst (λ k. list_all (is_from k) (j ∷ items) ≡ true) same all

pub from_any : (start : Item) (items : List Item) → None ≡ slice_get items 0 → list_all (is_from start) items ≡ true
from_any start [] h = refl
from_any start (i ∷ items) h = cc

-- an item that none comes before
pub from_least : (items : List Item) → list_all (is_from (record { analyzer = Flow; at = 0 })) items ≡ true
from_least [] = refl
from_least (i ∷ items) = and_from (is_from (record { analyzer = Flow; at = 0 }) i) (list_all (is_from (record { analyzer = Flow; at = 0 })) items) (none_before i) (from_least items)
  where
    at_most : (a : Analyzer) (n : ℕ) → not (is_lt (item_cmp (record { analyzer = a; at = n }) (record { analyzer = Flow; at = 0 }))) ≡ true
    at_most Flow n = grind (arith, nat_tests)
    at_most Refs n = refl
    at_most Funcs n = refl
    at_most Body n = refl
    at_most Strings n = refl

    none_before : (i : Item) → is_from (record { analyzer = Flow; at = 0 }) i ≡ true
    none_before i = at_most i.analyzer i.at

-- ---- the earliest of some items
gt_is : (a b : Item) → is_gt (item_cmp a b) ≡ is_lt (item_cmp b a)
gt_is a b = ap is_gt (items_total.antisymm a b) ∙ turned (item_cmp b a)
  where
    turned : (r : Ordering) → is_gt (ordering_reverse r) ≡ is_lt r
    turned Less = refl
    turned Equal = refl
    turned Greater = refl

pub from_through : (a b i : Item) → is_from a b ≡ true → is_from b i ≡ true → is_from a i ≡ true
from_through a b i first second =
    not_from_false (is_lt (item_cmp i a)) (sym (gt_is a i) ∙ upto items_total a b i (gt_is a b ∙ not-true (is_lt (item_cmp b a)) first) (gt_is b i ∙ not-true (is_lt (item_cmp i b)) second))

-- an item is the earliest of a start and a list
pub record IsEarliest (first start : Item) (items : List Item) : Type 0 where
  pub from_start : is_from first start ≡ true
  pub from_items : list_all (is_from first) items ≡ true
  pub one_of_them : has_item first (start ∷ items) ≡ true

pub none_yet : (start : Item) → IsEarliest start start []
none_yet start = record { from_start = from_itself start; from_items = refl; one_of_them = or_left (same_item start start) false (same_item_itself start) }

pub earlier : (first start : Item) (items : List Item) (i : ℕ) (d : Item) → i < length items → item_cmp (get_or items i d) first ≡ Less → IsEarliest first start (take i items) → IsEarliest (get_or items i d) start (take (i + 1) items)
earlier first start items i d lt less before =
    let item : Item = get_or items i d in
    let step : is_from item first ≡ true = ap (λ r. not (is_lt r)) (items_total.antisymm first item ∙ ap ordering_reverse less) in
    record {
      from_start = from_through item first start step before.from_start;
      from_items = list_all_more (is_from item) items i d lt ∙ and_from (list_all (is_from item) (take i items)) (is_from item item) (all_weaker (is_from item) (is_from first) (λ j. from_through item first j step) (take i items) before.from_items) (from_itself item);
      one_of_them = or_right (same_item item start) (has_item item (take (i + 1) items)) (list_any_more (same_item item) items i d lt ∙ or_right (has_item item (take i items)) (same_item item item) (same_item_itself item));
    }

pub not_earlier : (first start : Item) (items : List Item) (i : ℕ) (d : Item) → i < length items → (item_cmp (get_or items i d) first ≡ Less → ⊥) → IsEarliest first start (take i items) → IsEarliest first start (take (i + 1) items)
not_earlier first start items i d lt not_less before = record {
  from_start = before.from_start;
  from_items = list_all_more (is_from first) items i d lt ∙ and_from (list_all (is_from first) (take i items)) (is_from first (get_or items i d)) before.from_items (other (item_cmp (get_or items i d) first) not_less);
  one_of_them = elim (or_cases (same_item first start) (has_item first (take i items)) before.one_of_them) [
    | inl here ↦ or_left (same_item first start) (has_item first (take (i + 1) items)) here
    | inr later ↦ or_right (same_item first start) (has_item first (take (i + 1) items)) (list_any_kept (same_item first) items i later)
  ];
}
  where
    other : (r : Ordering) → (r ≡ Less → ⊥) → not (is_lt r) ≡ true
    other Less no_less = absurd (no_less refl)
    other Equal no_less = refl
    other Greater no_less = refl
