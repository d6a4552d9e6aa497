-- Sets of items: lists in order, told by their members. Use `same_sets` to prove two of them equal, `sorted` and `in_order`
-- to go between the test of the definitions and std's order, and `set_law` for what each operation leaves.
use Rattle.std.proofs.Common.{◌≡◌, ℕ, zero, suc, ◌+◌, ◌<◌, ◌≤◌, length, get_or, cond, add-one, Bool, true, false, not, ◌&&◌, ◌||◌, List, [], ◌∷◌, ◌++◌, take, drop, filter, refl, sym, ap, ◌∙◌, subst, inl, inr}
use Rattle.std.proofs.lemmas.Bool.{and_parts, and_from, or_cases, or_left, or_right, false_from_ne_true, true≢false, or_parts}
use Rattle.std.proofs.lemmas.List.{drop_all, take-append-drop}
use Rattle.std.proofs.lemmas.List.Folds.{list_any-append}
use Rattle.std.proofs.lemmas.List.Kept.{IsStrictlySortedBy-filter}
use Rattle.std.proofs.lemmas.Map.Keys.{sorted_head, sorted_tail}
use Rattle.std.proofs.lemmas.Map.Lookups.{btree_set_from_contains}
use Rattle.std.proofs.Math.Seq.{drop-cons}
use Rattle.std.specs.declared.cmp.Ordering.{Ordering}
use Rattle.std.specs.declared.cmp.Ordering.TheVariants.{Less, Equal, Greater}
use Rattle.std.specs.List.{AllByRecursion, list_all, list_any}
use Rattle.std.specs.List.Sorted.{IsStrictlySortedBy}
use Rattle.std.specs.Ordering.{is_lt, eq_by_cmp}
use Rattle.rvd_ask.specs.declared.asks.Analyzer.{Analyzer}
use Rattle.rvd_ask.specs.declared.asks.Item.{Item}
use Rattle.rvd_ask.specs.Order.{item_cmp, same_item}
use Rattle.rvd_ask.specs.Unsettled.{are_in_order, comes_before, has_item, same_analyzer}
use Rattle.rvd_ask.proofs.ItemOrder.{items_total, items_exact, same_item-true, has_item-filter, all_before}
use Rattle.rvd_queue.specs.Sets.{with, with_all, without_all, without_analyzer, AreSetOperations, SetLaw}
use Rattle.rvd_queue.proofs.OrderedLists.{sorted-insert, sorted-drop, any-insert, none_above}

-- ---- the order of a set
abbrev pub Sorted : List Item → Type 0
Sorted items = IsStrictlySortedBy item_cmp items

less_is : (o : Ordering) → is_lt o ≡ true → o ≡ Less
less_is Less h = refl
less_is Equal h = absurd (true≢false (sym h))
less_is Greater h = absurd (true≢false (sym h))

all_less : (i : Item) (items : List Item) → list_all (comes_before i) items ≡ true → AllByRecursion (λ j. item_cmp i j ≡ Less) items
all_less i [] h = tt
all_less i (j ∷ items) h =
    let parts = and_parts (comes_before i j) (list_all (comes_before i) items) h in
    (less_is (item_cmp i j) parts.0, all_less i items parts.1)

pub sorted : (items : List Item) → are_in_order items ≡ true → Sorted items
unfolding IsStrictlySortedBy
sorted [] h = tt
sorted (i ∷ items) h =
    let parts = and_parts (list_all (comes_before i) items) (are_in_order items) h in
    (all_less i items parts.0, sorted items parts.1)

pub in_order : (items : List Item) → Sorted items → are_in_order items ≡ true
in_order [] s = refl
in_order (i ∷ items) s = and_from (list_all (comes_before i) items) (are_in_order items) (all_before i items (sorted_head item_cmp i items s)) (in_order items (sorted_tail item_cmp i items s))

-- two sets with the same members are one
pub same_sets : (items others : List Item) → Sorted items → Sorted others → ((i : Item) → has_item i items ≡ has_item i others) → items ≡ others
same_sets items others s t same = btree_set_from_contains items_total (record { keys = items }) (record { keys = others }) s t same items_exact

-- ---- adding
pub sorted-with_all : (more items : List Item) → Sorted items → Sorted (with_all more items)
sorted-with_all [] items s = s
sorted-with_all (i ∷ more) items s = sorted-with_all more (with i items) (sorted-insert items_total i items s)

shifted : (a b c : Bool) → (b || (a || c)) ≡ ((a || b) || c)
shifted true true c = refl
shifted true false c = refl
shifted false b c = refl

pub has_item-with_all : (i : Item) (more items : List Item) → has_item i (with_all more items) ≡ (has_item i more || has_item i items)
has_item-with_all i [] items = refl
has_item-with_all i (j ∷ more) items =
    has_item-with_all i more (with j items)
    ∙ ap (λ b. has_item i more || b) (any-insert items_total i j items)
    ∙ shifted (same_item i j) (has_item i more) (has_item i items)

-- ---- taking away

pub sorted-filter : (test : Item → Bool) (items : List Item) → Sorted items → Sorted (filter test items)
sorted-filter test items s = IsStrictlySortedBy-filter item_cmp test items s

-- ---- the least
parted : (i : Item) (items others : List Item) → Sorted (items ++ others) → has_item i items ≡ true → has_item i others ≡ false
parted i [] others s h = absurd (true≢false (sym h))
parted i (j ∷ items) others s h = elim (or_cases (same_item i j) (has_item i items) h) [
  | inl same ↦
      let none : has_item j (items ++ others) ≡ false = none_above items_total j (items ++ others) (sorted_head item_cmp j (items ++ others) s) in
      let apart : (has_item j items || has_item j others) ≡ false = sym (list_any-append (same_item j) items others) ∙ none in
      ap (λ k. has_item k others) (same_item-true i j same) ∙ (or_parts (has_item j items) (has_item j others) apart).1
  | inr later ↦ parted i items others (sorted_tail item_cmp j (items ++ others) s) later
]

left_over : (t d : Bool) → (t ≡ true → d ≡ false) → ((t || d) && not t) ≡ d
left_over true d apart = sym (apart refl)
left_over false true apart = refl
left_over false false apart = refl

pub without_least : (n : ℕ) (items : List Item) → Sorted items → without_all (take n items) items ≡ drop n items
without_least n items s =
    let whole : Sorted (take n items ++ drop n items) = subst Sorted (sym (take-append-drop n items)) s in
    same_sets (without_all (take n items) items) (drop n items) (sorted-filter (λ i. not (has_item i (take n items))) items s) (sorted-drop items_total n items s) (λ i.
    has_item-filter i (λ j. not (has_item j (take n items))) items
    ∙ ap (λ (all : List Item). has_item i all && not (has_item i (take n items))) (sym (take-append-drop n items))
    ∙ ap (λ b. b && not (has_item i (take n items))) (list_any-append (same_item i) (take n items) (drop n items))
    ∙ left_over (has_item i (take n items)) (has_item i (drop n items)) (parted i (take n items) (drop n items) whole))

-- ---- the law
pub set_law : SetLaw
set_law items others ordered =
    let s : Sorted items = sorted items ordered in
    record {
      with_order = in_order (with_all others items) (sorted-with_all others items s);
      with_members = λ i. has_item-with_all i others items;
      without_order = in_order (without_all others items) (sorted-filter (λ i. not (has_item i others)) items s);
      without_members = λ i. has_item-filter i (λ j. not (has_item j others)) items;
      analyzer_order = λ a. in_order (without_analyzer a items) (sorted-filter (λ i. not (same_analyzer a i.analyzer)) items s);
      analyzer_members = λ a i. has_item-filter i (λ j. not (same_analyzer a j.analyzer)) items;
      least_gone = λ n. without_least n items s;
      told_by_members = λ ordered_too same. same_sets others items (sorted others ordered_too) s same;
    }

-- ---- a list of items, one after the other
without_both : (i : Item) (more items : List Item) → without_all (i ∷ more) items ≡ without_all more (without_all (i ∷ []) items)
without_both i more [] = refl
without_both i more (j ∷ items) = elim (same_item j i) as (λ b. cond (not (b || has_item j more)) (j ∷ without_all (i ∷ more) items) (without_all (i ∷ more) items) ≡ without_all more (cond (not (b || false)) (j ∷ without_all (i ∷ []) items) (without_all (i ∷ []) items))) [
  | true ↦ without_both i more items
  | false ↦ elim (has_item j more) as (λ b. cond (not b) (j ∷ without_all (i ∷ more) items) (without_all (i ∷ more) items) ≡ cond (not b) (j ∷ without_all more (without_all (i ∷ []) items)) (without_all more (without_all (i ∷ []) items))) [
    | true ↦ without_both i more items
    | false ↦ ap (λ (rest : List Item). j ∷ rest) (without_both i more items)
  ]
]

pub without_next : (gone items : List Item) (i : ℕ) (d : Item) → i < length gone → without_all (drop (i + 1) gone) (without_all (get_or gone i d ∷ []) items) ≡ without_all (drop i gone) items
without_next gone items i d lt = sym (without_both (get_or gone i d) (drop (i + 1) gone) items) ∙ ap (λ (rest : List Item). without_all rest items) (ap (λ n. get_or gone i d ∷ drop n gone) (add-one i) ∙ sym (drop-cons gone i d lt))

without_none : (items : List Item) → without_all [] items ≡ items
without_none [] = refl
without_none (i ∷ items) = ap (λ (rest : List Item). i ∷ rest) (without_none items)

pub without_rest : (gone items : List Item) (i : ℕ) → length gone ≤ i → without_all (drop i gone) items ≡ items
without_rest gone items i past = ap (λ (rest : List Item). without_all rest items) (drop_all i gone past) ∙ without_none items
