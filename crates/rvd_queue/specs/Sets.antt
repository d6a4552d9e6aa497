-- Sets of items: lists by priority and address, each item once. Use `with` and `with_all` to add, `without_all` and
-- `without_analyzer` to take away; the least n items of a set are its first ones, `take n`. `SetLaw` says which items a
-- set has afterwards.
use Rattle.std.specs.Prelude.{◌≡◌, ℕ, Bool, true, not, ◌&&◌, ◌||◌, List, [], ◌∷◌, filter, take, drop}
use Rattle.std.specs.BTreeSet.{insert_key}
use Rattle.rvd_ask.specs.declared.asks.Analyzer.{Analyzer}
use Rattle.rvd_ask.specs.declared.asks.Item.{Item}
use Rattle.rvd_ask.specs.Order.{item_cmp}
use Rattle.rvd_ask.specs.Unsettled.{are_in_order, has_item, same_analyzer}

-- the set with an item
abbrev pub with : Item → List Item → List Item
with i items = insert_key item_cmp items i

-- the set with more items
abbrev pub with_all : List Item → List Item → List Item
with_all [] items = items
with_all (i ∷ more) items = with_all more (with i items)

-- the set without some items
abbrev pub without_all : List Item → List Item → List Item
without_all gone items = filter (λ i. not (has_item i gone)) items

-- the set without the items of an analyzer
abbrev pub without_analyzer : Analyzer → List Item → List Item
without_analyzer a items = filter (λ i. not (same_analyzer a i.analyzer)) items

-- what a set is after each operation, where `others` are any items
pub record AreSetOperations (items others : List Item) : Type 0 where
  pub with_order : are_in_order (with_all others items) ≡ true
  pub with_members : (i : Item) → has_item i (with_all others items) ≡ (has_item i others || has_item i items)
  pub without_order : are_in_order (without_all others items) ≡ true
  pub without_members : (i : Item) → has_item i (without_all others items) ≡ (has_item i items && not (has_item i others))
  pub analyzer_order : (a : Analyzer) → are_in_order (without_analyzer a items) ≡ true
  pub analyzer_members : (a : Analyzer) (i : Item) → has_item i (without_analyzer a items) ≡ (has_item i items && not (same_analyzer a i.analyzer))
  pub least_gone : (n : ℕ) → without_all (take n items) items ≡ drop n items
  pub told_by_members : are_in_order others ≡ true → ((i : Item) → has_item i others ≡ has_item i items) → others ≡ items

abbrev pub SetLaw : Type 0
SetLaw = (items others : List Item) → are_in_order items ≡ true → AreSetOperations items others
