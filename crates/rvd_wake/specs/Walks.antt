-- Addresses that walks over a program pick, which may come in any order and more than once, and the lists of items that they
-- become. Use `AreJust` for the addresses at which an analyzer has an item, and `Orders` for the list that it ends in.
use Rattle.std.specs.Prelude.{◌≡◌, ℕ, ◌^◌, ◌<◌, Bool, true, ◌&&◌, ◌||◌, ◌==◌, List}
use Rattle.std.specs.List.{list_any}
use Rattle.rvd_ask.specs.declared.asks.Analyzer.{Analyzer}
use Rattle.rvd_ask.specs.declared.asks.Item.{Item}
use Rattle.rvd_ask.specs.Unsettled.{are_in_order, has_item, same_analyzer}

-- whether an address is among some places
abbrev pub has_place : ℕ → List ℕ → Bool
has_place a places = list_any (λ p. p == a) places

-- among all addresses the places are just those that pass a test
abbrev pub AreJust : (ℕ → Bool) → List ℕ → Type 0
AreJust test places = (a : ℕ) → a < 2 ^ 32 → has_place a places ≡ test a

-- whether an item is an analyzer's at one of some places
abbrev pub is_at : Analyzer → List ℕ → Item → Bool
is_at analyzer places i = same_analyzer analyzer i.analyzer && has_place i.at places

-- a list has the items of another, each once, by priority and address
pub record Orders (items list : List Item) : Type 0 where
  pub in_order : are_in_order list ≡ true
  pub members : (i : Item) → has_item i list ≡ has_item i items

-- places gain the addresses that pass a test
abbrev pub Gain : (ℕ → Bool) → List ℕ → List ℕ → Type 0
Gain test old new = (a : ℕ) → a < 2 ^ 32 → has_place a new ≡ (has_place a old || test a)
