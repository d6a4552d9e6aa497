-- Items as lists, each once, by priority and address: those that a change wakes, those that may be unsettled, and those
-- that are. Use `unsettled` for what is left to do, `IsClosed` where nothing is, and `ListsJust` for a list that is told
-- by its members.
use Rattle.std.specs.Prelude.{◌≡◌, ℕ, ◌^◌, Bool, true, not, ◌&&◌, ◌==◌, nat_lt, List, [], ◌∷◌, filter, flat_map, length, map}
use Rattle.std.specs.List.{list_all, list_any, range_with_len}
use Rattle.std.specs.Ordering.{is_lt}
use Rattle.rvd_fact.specs.declared.cells.Change.{Change}
use Rattle.rvd_fact.specs.Program.{Program}
use Rattle.rvd_ask.specs.declared.asks.Analyzer.{Analyzer}
use Rattle.rvd_ask.specs.declared.asks.Analyzer.TheVariants.{Flow, Refs, Funcs, Body, Strings}
use Rattle.rvd_ask.specs.declared.asks.Item.{Item}
use Rattle.rvd_ask.specs.Order.{item_cmp, priority, same_item}
use Rattle.rvd_ask.specs.Rules.{rule}
use Rattle.rvd_ask.specs.Wake.{any_wakes, is_candidate, item, wakes}

-- the analyzers by priority
abbrev pub analyzers : List Analyzer
analyzers = Flow ∷ Refs ∷ Funcs ∷ Body ∷ Strings ∷ []

-- the items at addresses below n that pass a test, each once, by priority and address
unfoldable pub items_below : ℕ → (Item → Bool) → List Item
items_below n test = filter test (flat_map (λ a. map (item a) (range_with_len 0 n)) analyzers)

-- the items at any address that pass a test
abbrev pub items_where : (Item → Bool) → List Item
items_where test = items_below (2 ^ 32) test

-- whether an item comes before another, and whether it is in a list
abbrev pub comes_before : Item → Item → Bool
comes_before i j = is_lt (item_cmp i j)

abbrev pub has_item : Item → List Item → Bool
has_item i items = list_any (same_item i) items

-- whether each item comes before all behind it
abbrev pub are_in_order : List Item → Bool
are_in_order [] = true
are_in_order (i ∷ items) = list_all (comes_before i) items && are_in_order items

-- a list has just the items at addresses below n that pass a test, each once, by priority and address
pub record ListsJust (n : ℕ) (test : Item → Bool) (items : List Item) : Type 0 where
  pub in_order : are_in_order items ≡ true
  pub members : (i : Item) → has_item i items ≡ (nat_lt i.at n && test i)

-- the list of the items that pass is such a list, and the only one
pub record IsOnlyListing (n : ℕ) (test : Item → Bool) : Type 0 where
  pub lists : ListsJust n test (items_below n test)
  pub only : (items : List Item) → ListsJust n test items → items ≡ items_below n test

abbrev pub ListingLaw : Type 0
ListingLaw = (n : ℕ) (test : Item → Bool) → IsOnlyListing n test

abbrev pub same_analyzer : Analyzer → Analyzer → Bool
same_analyzer a b = priority a == priority b

-- whether an item is of one of some analyzers
abbrev pub is_enabled : List Analyzer → Item → Bool
is_enabled enabled i = list_any (same_analyzer i.analyzer) enabled

-- whether the rule of an item has changes
abbrev pub is_unsettled : Program → Item → Bool
is_unsettled S i = not (length (rule S i) == 0)

-- the items that a change wakes, where S is the program after it
abbrev pub woken : Program → Change → List Item
woken S c = items_where (wakes S c)

-- the items that changes wake, each in the program after it, where S is the program before them
abbrev pub woken_by_all : Program → List Change → List Item
woken_by_all S cs = items_where (any_wakes S cs)

-- the candidates of an analyzer
abbrev pub candidates : Program → Analyzer → List Item
candidates S a = items_where (λ i. same_analyzer a i.analyzer && is_candidate S i)

-- the items of enabled analyzers whose rules have changes
abbrev pub unsettled : Program → List Analyzer → List Item
unsettled S enabled = items_where (λ i. is_enabled enabled i && is_unsettled S i)

-- no enabled analyzer would change the program
abbrev pub IsClosed : Program → List Analyzer → Type 0
IsClosed S enabled = unsettled S enabled ≡ []
