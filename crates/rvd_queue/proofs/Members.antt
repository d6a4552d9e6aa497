-- The items whose cells pass a test, after a change of the cells. Use `with_one`, `without_one` and `as_before` after a
-- change of one cell, and `both_tests` for the items of two tests together.
use Rattle.std.proofs.Common.{◌≡◌, ℕ, ◌+◌, ◌<◌, ◌≤◌, take, get_or, Bool, true, false, cond, not, ◌&&◌, ◌||◌, List, [], ◌∷◌, length, filter, Option, Some, None, is_some, refl, sym, ap, ◌∙◌, subst, inl, inr, arith}
use Rattle.std.proofs.lemmas.Bool.{and_from, and_parts, true≢false}
use Rattle.std.proofs.lemmas.List.Folds.{list_all_more}
use Rattle.std.proofs.lemmas.Cmp.{eq_by_cmp_equiv}
use Rattle.std.proofs.lemmas.Map.Entries.{lookup-filter-values, option_filter}
use Rattle.std.proofs.lemmas.Map.Keys.{IsDistinct-from_sorted}
use Rattle.std.proofs.lemmas.Map.Made.{is_some-lookup}
use Rattle.std.specs.BTreeMap.{BTreeMap, get_by, is_at, IsOrdered, Updates, WritesThrough}
use Rattle.std.specs.declared.cmp.Ordering.{Ordering}
use Rattle.std.specs.List.Sorted.{IsStrictlySortedBy}
use Rattle.std.specs.Map.{keys_of, lookup}
use Rattle.std.specs.Ordering.{is_eq}
use Rattle.rvd_ask.specs.contracts.asks.ItemOrd.TheImpl.{cmp-value}
use Rattle.rvd_ask.specs.declared.asks.Item.{Item}
use Rattle.rvd_ask.specs.Order.{item_cmp, same_item}
use Rattle.rvd_ask.specs.Unsettled.{has_item}
use Rattle.rvd_ask.proofs.ItemOrder.{items_total, cases_item, derived_is, same_item_itself, has_item-filter}
use Rattle.rvd_queue.specs.declared.cells.Cell.{Cell}
use Rattle.rvd_queue.specs.Cells.{AreSets, Contents, InOrder, have_cells, KeepsCells, contents_of, items_where, queued_in, kept_in, is_queued, is_kept}
use Rattle.rvd_queue.specs.Sets.{with, with_all, without_all}
use Rattle.rvd_queue.proofs.OrderedLists.{sorted-keys_filter, sorted-insert, any-insert, length-insert, added}
use Rattle.rvd_queue.proofs.ItemSets.{Sorted, sorted, in_order, same_sets, sorted-filter, sorted-with_all, has_item-with_all}

abbrev pub Cells : Type 0
Cells = List (Item × Cell)

-- the cell of an item
abbrev pub cell_at : Item → Cells → Option Cell
cell_at i cells = lookup (is_at (item_cmp i)) cells

-- whether there is a cell, and it passes a test
abbrev pub passes : (Cell → Bool) → Option Cell → Bool
passes test None = false
passes test (Some c) = test c

filtered : (test : Cell → Bool) (o : Option Cell) → is_some (option_filter test o) ≡ passes test o
filtered test None = refl
filtered test (Some c) = elim (test c) as (λ b. is_some (cond b (Some c) None) ≡ b) [ true ↦ refl | false ↦ refl ]

pub sorted-items : (test : Cell → Bool) (cells : Cells) → Sorted (keys_of cells) → Sorted (items_where test cells)
sorted-items test cells s = sorted-keys_filter item_cmp (λ c. test c.1) cells s

-- an item is among them exactly if its cell passes
pub has_item-items : (i : Item) (test : Cell → Bool) (cells : Cells) → Sorted (keys_of cells) → has_item i (items_where test cells) ≡ passes test (cell_at i cells)
has_item-items i test cells s =
    sym (is_some-lookup (same_item i) (filter (λ c. test c.1) cells))
    ∙ ap is_some (lookup-filter-values (eq_by_cmp_equiv items_total) test i cells (IsDistinct-from_sorted item_cmp (keys_of cells) s))
    ∙ filtered test (cell_at i cells)

-- the cell of one item changes, and no other: there is none any more, or it is the one given
pub record IsChange (old new : Cells) (i : Item) (o : Option Cell) : Type 0 where
  pub was_sorted : Sorted (keys_of old)
  pub sorted : Sorted (keys_of new)
  pub placed : (j : Item) → cell_at j new ≡ cond (same_item i j) o (cell_at j old)

module _ {old new : Cells} {i : Item} {o : Option Cell} (change : IsChange old new i o) (test : Cell → Bool) where
  item_now : (j : Item) → has_item j (items_where test new) ≡ cond (same_item i j) (passes test o) (has_item j (items_where test old))
  item_now j =
      has_item-items j test new change.sorted ∙ ap (passes test) (change.placed j)
      ∙ (elim (same_item i j) as (λ b. passes test (cond b o (cell_at j old)) ≡ cond b (passes test o) (passes test (cell_at j old))) [ true ↦ refl | false ↦ refl ])
      ∙ ap (λ b. cond (same_item i j) (passes test o) b) (sym (has_item-items j test old change.was_sorted))

  flipped : (j : Item) → same_item j i ≡ same_item i j
  flipped j = (eq_by_cmp_equiv items_total).symm j i

  -- it passes now
  pub with_one : passes test o ≡ true → items_where test new ≡ with i (items_where test old)
  with_one now = same_sets (items_where test new) (with i (items_where test old)) (sorted-items test new change.sorted) (sorted-insert items_total i (items_where test old) (sorted-items test old change.was_sorted)) (λ j.
      item_now j ∙ ap (λ b. cond (same_item i j) b (has_item j (items_where test old))) now
      ∙ (elim (same_item i j) as (λ b. cond b true (has_item j (items_where test old)) ≡ (b || has_item j (items_where test old))) [ true ↦ refl | false ↦ refl ])
      ∙ ap (λ b. b || has_item j (items_where test old)) (sym (flipped j))
      ∙ sym (any-insert items_total j i (items_where test old)))

  -- it doesn't pass any more
  pub without_one : passes test o ≡ false → items_where test new ≡ without_all (i ∷ []) (items_where test old)
  without_one not_now = same_sets (items_where test new) (without_all (i ∷ []) (items_where test old)) (sorted-items test new change.sorted) (sorted-filter (λ j. not (has_item j (i ∷ []))) (items_where test old) (sorted-items test old change.was_sorted)) (λ j.
      item_now j ∙ ap (λ b. cond (same_item i j) b (has_item j (items_where test old))) not_now
      ∙ (elim (same_item i j) as (λ b. (h : Bool) → cond b false h ≡ (h && not (b || false))) [ true ↦ λ h. (elim h as (λ h. false ≡ (h && false)) [ true ↦ refl | false ↦ refl ]) | false ↦ λ h. (elim h as (λ h. h ≡ (h && true)) [ true ↦ refl | false ↦ refl ]) ]) (has_item j (items_where test old))
      ∙ ap (λ b. has_item j (items_where test old) && not (b || false)) (sym (flipped j))
      ∙ sym (has_item-filter j (λ k. not (has_item k (i ∷ []))) (items_where test old)))

  -- it passes exactly if it did
  pub as_before : passes test o ≡ passes test (cell_at i old) → items_where test new ≡ items_where test old
  as_before same = same_sets (items_where test new) (items_where test old) (sorted-items test new change.sorted) (sorted-items test old change.was_sorted) (λ j. item_now j ∙ (elim (cases_item i j) [
    | inl i_is ↦ ap (λ b. cond (same_item i j) b (has_item j (items_where test old))) (same ∙ sym (has_item-items i test old change.was_sorted) ∙ ap (λ k. has_item k (items_where test old)) i_is) ∙ (elim (same_item i j) as (λ b. cond b (has_item j (items_where test old)) (has_item j (items_where test old)) ≡ has_item j (items_where test old)) [ true ↦ refl | false ↦ refl ])
    | inr other ↦ ap (λ b. cond b (passes test o) (has_item j (items_where test old))) other
  ]))

  -- how many more these are
  pub length-with_one : passes test o ≡ true → length (items_where test new) ≡ length (items_where test old) + added (passes test (cell_at i old))
  length-with_one now =
      ap length (with_one now)
      ∙ length-insert items_total i (items_where test old) (sorted-items test old change.was_sorted)
      ∙ ap (λ b. length (items_where test old) + added b) (has_item-items i test old change.was_sorted)

-- the change that takes it back
taken_back : {old new : Cells} {i : Item} {o : Option Cell} → IsChange old new i o → IsChange new old i (cell_at i old)
taken_back {old} {new} {i} {o} change = record {
  was_sorted = change.sorted;
  sorted = change.was_sorted;
  placed = λ j. elim (cases_item i j) [
    | inl i_is ↦ sym (ap (λ b. cond b (cell_at i old) (cell_at j new)) (ap (same_item i) (sym i_is) ∙ same_item_itself i) ∙ ap (λ k. cell_at k old) i_is)
    | inr other ↦ sym (ap (λ b. cond b (cell_at i old) (cell_at j new)) other ∙ change.placed j ∙ ap (λ b. cond b o (cell_at j old)) other)
  ];
}

-- how many fewer
pub length-without_one : {old new : Cells} {i : Item} {o : Option Cell} (change : IsChange old new i o) (test : Cell → Bool) → passes test (cell_at i old) ≡ true → passes test o ≡ false → length (items_where test new) + 1 ≡ length (items_where test old)
length-without_one {old} {new} {i} {o} change test was not_now = sym (
    length-with_one (taken_back change) test was
    ∙ ap (λ b. length (items_where test new) + added b) (ap (passes test) (change.placed i ∙ ap (λ b. cond b o (cell_at i old)) (same_item_itself i)) ∙ not_now))

-- ---- what the calls of a map say
abbrev pub Map : Type 0
Map = BTreeMap Item Cell

pub keys_sorted : (m : Map) → IsOrdered cmp-value.it m → Sorted (keys_of m.entries)
keys_sorted m s = subst (λ (R : Item → Item → Ordering). IsStrictlySortedBy R (keys_of m.entries)) derived_is s

pub map_in_order : (m : Map) → IsOrdered cmp-value.it m → InOrder m.entries
map_in_order m s = in_order (keys_of m.entries) (keys_sorted m s)

pub found_is : (m : Map) (i : Item) (o : Option Cell) → o ≡ get_by (cmp-value.it i) m → cell_at i m.entries ≡ o
found_is m i o h = sym (h ∙ ap (λ (R : Item → Item → Ordering). lookup (is_at (R i)) m.entries) derived_is)

pub by_update : (m n : Map) (i : Item) (o : Option Cell) → InOrder m.entries → IsOrdered cmp-value.it n → Updates cmp-value.it m n i o → IsChange m.entries n.entries i o
by_update m n i o before after update = record {
  was_sorted = sorted (keys_of m.entries) before;
  sorted = keys_sorted n after;
  placed = λ j. subst (λ (R : Item → Item → Ordering). lookup (is_at (R j)) n.entries ≡ cond (is_eq (R i j)) o (lookup (is_at (R j)) m.entries)) derived_is (update.0 j);
}

pub by_write : (m : Map) (lender : Cell → Map) (i : Item) (v w : Cell) → InOrder m.entries → Some v ≡ get_by (cmp-value.it i) m → WritesThrough cmp-value.it (cmp-value.it i) m w (lender w) → IsChange m.entries (lender w).entries i (Some w)
by_write m lender i v w before there written = by_update m (lender w) i (Some w) before written.4 (written.3 (ap is_some (sym there)))

pub has_key : (i : Item) (cells : Cells) → has_item i (keys_of cells) ≡ is_some (cell_at i cells)
has_key i cells = sym (is_some-lookup (same_item i) cells)

-- an item with a cell is found
pub not_there : (m : Map) (i : Item) → has_item i (keys_of m.entries) ≡ true → None ≡ get_by (cmp-value.it i) m → ⊥
not_there m i there none = true≢false (sym there ∙ has_key i m.entries ∙ ap is_some (found_is m i None none))

-- nothing has changed
pub unchanged : (cells : Cells) (i : Item) (o : Option Cell) → InOrder cells → cell_at i cells ≡ o → IsChange cells cells i o
unchanged cells i o order found = record {
  was_sorted = sorted (keys_of cells) order;
  sorted = sorted (keys_of cells) order;
  placed = λ j. elim (cases_item i j) [
    | inl i_is ↦ ap (λ k. cell_at k cells) (sym i_is) ∙ found ∙ sym (ap (λ b. cond b o (cell_at j cells)) (ap (same_item i) (sym i_is) ∙ same_item_itself i))
    | inr other ↦ sym (ap (λ b. cond b o (cell_at j cells)) other)
  ];
}

-- an item with a cell leaves the queue, and is kept as it was
pub record IsUnqueued (old new : Cells) (i : Item) (was : Bool) : Type 0 where
  pub queued : queued_in new ≡ without_all (i ∷ []) (queued_in old)
  pub kept : kept_in new ≡ kept_in old
  pub count : length (queued_in new) + cond was 1 0 ≡ length (queued_in old)

pub unqueued : {old new : Cells} {i : Item} {o : Option Cell} (change : IsChange old new i o) (was : Cell) → cell_at i old ≡ Some was → passes is_queued o ≡ false → passes is_kept o ≡ was.kept → IsUnqueued old new i was.queued
unqueued {old} {new} {i} {o} change was found not_queued as_kept = record {
  queued = without_one change is_queued not_queued;
  kept = as_before change is_kept (as_kept ∙ ap (passes is_kept) (sym found));
  count = elim was.queued as (λ b. was.queued ≡ b → length (queued_in new) + cond b 1 0 ≡ length (queued_in old)) [
    | true ↦ λ yes_queued. length-without_one change is_queued (ap (passes is_queued) found ∙ yes_queued) not_queued
    | false ↦ λ no_queued. let same : length (queued_in new) ≡ length (queued_in old) = ap length (as_before change is_queued (not_queued ∙ sym (ap (passes is_queued) found ∙ no_queued))) in omega (arith, same)
  ] refl;
}

-- an item without a cell gets one that is in neither set, or a cell that is in neither set goes
pub blank : {old new : Cells} {i : Item} {o : Option Cell} (change : IsChange old new i o) → passes is_queued o ≡ passes is_queued (cell_at i old) → passes is_kept o ≡ passes is_kept (cell_at i old) → contents_of new ≡ contents_of old
blank change as_queued as_kept = λ x. record { queued = as_before change is_queued as_queued x; kept = as_before change is_kept as_kept x }

-- the changed item has a cell now, and the others have theirs
pub has_cell : {old new : Cells} {i : Item} {c : Cell} → IsChange old new i (Some c) → has_item i (keys_of new) ≡ true
has_cell {old} {new} {i} {c} change = has_key i new ∙ ap is_some (change.placed i ∙ ap (λ b. cond b (Some c) (cell_at i old)) (same_item_itself i))

pub keeps_cells : {old new : Cells} {i : Item} {c : Cell} → IsChange old new i (Some c) → KeepsCells old new
keeps_cells {old} {new} {i} {c} change j there =
    has_key j new ∙ ap is_some (change.placed j)
    ∙ (elim (same_item i j) as (λ b. is_some (cond b (Some c) (cell_at j old)) ≡ true) [ true ↦ refl | false ↦ sym (has_key j old) ∙ there ])

-- a look-up that finds nothing, and one that finds a cell
pub none_found : (m : Map) (i : Item) → false ≡ is_some (get_by (cmp-value.it i) m) → cell_at i m.entries ≡ None
none_found m i h = found_is m i None (sym (none_is (get_by (cmp-value.it i) m) h))
  where
    none_is : (o : Option Cell) → false ≡ is_some o → o ≡ None
    none_is None h = refl
    none_is (Some c) h = absurd (true≢false (sym h))

pub one_found : (m : Map) (i : Item) → true ≡ is_some (get_by (cmp-value.it i) m) → has_item i (keys_of m.entries) ≡ true
one_found m i h = has_key i m.entries ∙ ap is_some (found_is m i (get_by (cmp-value.it i) m) refl) ∙ sym h

-- items that have cells have them still
pub have_still : (items : List Item) (old new : Cells) → have_cells items old ≡ true → KeepsCells old new → have_cells items new ≡ true
have_still [] old new h stay = refl
have_still (j ∷ items) old new h stay =
    let parts = and_parts (has_item j (keys_of old)) (have_cells items old) h in
    and_from (has_item j (keys_of new)) (have_cells items new) (stay j parts.0) (have_still items old new parts.1 stay)

-- one item more has a cell, and those before it have theirs still
pub have_more : (items : List Item) (old new : Cells) (i : ℕ) (d : Item) → i < length items → have_cells (take i items) old ≡ true → KeepsCells old new → has_item (get_or items i d) (keys_of new) ≡ true → have_cells (take (i + 1) items) new ≡ true
have_more items old new i d lt before stay there =
    list_all_more (λ j. has_item j (keys_of new)) items i d lt
    ∙ and_from (have_cells (take i items) new) (has_item (get_or items i d) (keys_of new)) (have_still (take i items) old new before stay) there

-- the two lists are sets
pub are_sets : (cells : Cells) (contents : Contents) → contents_of cells ≡ contents → InOrder cells → AreSets contents
are_sets cells contents is order = subst AreSets is (record {
  queued = in_order (queued_in cells) (sorted-items is_queued cells (sorted (keys_of cells) order));
  kept = in_order (kept_in cells) (sorted-items is_kept cells (sorted (keys_of cells) order));
})

-- they are no more than the cells
pub few_items : (test : Cell → Bool) (cells : Cells) → length (items_where test cells) ≤ length cells
few_items test [] = omega arith
few_items test (e ∷ cells) =
    let rest : length (items_where test cells) ≤ length cells = few_items test cells in
    elim (test e.1) as (λ b. length (keys_of (cond b (e ∷ filter (λ c. test c.1) cells) (filter (λ c. test c.1) cells))) ≤ length (e ∷ cells)) [
      | true ↦ omega (arith, rest)
      | false ↦ omega (arith, rest)
    ]

-- the changed item has a cell exactly where it is kept
pub cell_if_kept : {old new : Cells} {i : Item} {o : Option Cell} → IsChange old new i o → is_some o ≡ passes is_kept o → has_item i (keys_of new) ≡ has_item i (kept_in new)
cell_if_kept {old} {new} {i} {o} change only_kept =
    let now : cell_at i new ≡ o = change.placed i ∙ ap (λ b. cond b o (cell_at i old)) (same_item_itself i) in
    has_key i new ∙ ap is_some now ∙ only_kept ∙ sym (ap (passes is_kept) now) ∙ sym (has_item-items i is_kept new change.sorted)
