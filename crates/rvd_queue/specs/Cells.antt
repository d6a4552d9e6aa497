-- The cells of the two sets, and what contracts see of them. Use `Contents` for the two sets, and `IsSound` for what the
-- queues keep about their cells.
use Rattle.std.specs.Prelude.{◌≡◌, ℕ, Bool, true, not, List, filter, length}
use Rattle.std.specs.List.{list_all}
use Rattle.std.specs.Map.{keys_of}
use Rattle.rvd_ask.specs.declared.asks.Item.{Item}
use Rattle.rvd_ask.specs.Unsettled.{are_in_order, comes_before, has_item}
use Rattle.rvd_queue.specs.declared.cells.Cell.{Cell}

-- the queued items and the kept ones, each by priority and address
pub record Contents : Type 0 where
  pub queued : List Item
  pub kept : List Item

-- both are sets: in order, each item once
pub record AreSets (contents : Contents) : Type 0 where
  pub queued : are_in_order contents.queued ≡ true
  pub kept : are_in_order contents.kept ≡ true

-- the items whose cells pass a test
abbrev pub items_where : (Cell → Bool) → List (Item × Cell) → List Item
items_where test cells = keys_of (filter (λ c. test c.1) cells)

abbrev pub is_queued : Cell → Bool
is_queued c = c.queued

abbrev pub is_kept : Cell → Bool
is_kept c = c.kept

abbrev pub queued_in : List (Item × Cell) → List Item
queued_in cells = items_where is_queued cells

abbrev pub kept_in : List (Item × Cell) → List Item
kept_in cells = items_where is_kept cells

-- the cells are in order
abbrev pub InOrder : List (Item × Cell) → Type 0
InOrder cells = are_in_order (keys_of cells) ≡ true

-- the two sets that cells stand for
abbrev pub contents_of : List (Item × Cell) → Contents
contents_of cells = record { queued = queued_in cells; kept = kept_in cells }

-- whether each of some items has a cell
abbrev pub have_cells : List Item → List (Item × Cell) → Bool
have_cells items cells = list_all (λ i. has_item i (keys_of cells)) items

-- each item that had a cell has one still
abbrev pub KeepsCells : List (Item × Cell) → List (Item × Cell) → Type 0
KeepsCells old new = (i : Item) → has_item i (keys_of old) ≡ true → has_item i (keys_of new) ≡ true

-- whether an item is at another or behind it
abbrev pub is_from : Item → Item → Bool
is_from start i = not (comes_before i start)

-- the cells are in order, no item before the start is queued, and the queued items are counted
pub record IsSound (cells : List (Item × Cell)) (start : Item) (count : ℕ) : Type 0 where
  pub in_order : InOrder cells
  pub from_start : list_all (is_from start) (queued_in cells) ≡ true
  pub counted : count ≡ length (queued_in cells)
