-- What look-ups of names answer.
use Rattle.std.specs.Prelude.{◌≡◌, ℕ, ◌<◌, ◌≤◌, List, ◌++◌, Option, Some, None, Bool, true, false}
use Rattle.rvd_fact.specs.declared.keys.Key.{Key}
use Rattle.rvd_fact.specs.declared.cells.Cell.{Cell}
use Rattle.rvd_fact.specs.Program.{Program, cell_at}
use Rattle.rvd_listing.specs.Names.{symbol_key, slots}

-- a key is no slot for symbols of an address
abbrev pub IsNoSlot : ℕ → Key → Type 0
IsNoSlot a k = (t : ℕ) → t < slots → k ≡ symbol_key a t → ⊥

-- no slot for symbols of an address has a cell, from one slot on and below another
abbrev pub HasNoCellFrom : Program → ℕ → ℕ → ℕ → Type 0
HasNoCellFrom S a slot end = (t : ℕ) → slot ≤ t → t < end → cell_at S (symbol_key a t) ≡ None

-- a cell is the first one in the slots from one on
pub record IsNextSymbol (S : Program) (a slot found : ℕ) (cell : Cell) : Type 0 where
  pub from : slot ≤ found
  pub within : found < slots
  pub here : cell_at S (symbol_key a found) ≡ Some cell
  pub none : HasNoCellFrom S a slot found

-- a name is appended where there is one, and the answer tells whether there is
abbrev pub AppendsName : List ℕ → List ℕ → Option (List ℕ) → Bool → Type 0
AppendsName old new None named = (named ≡ false) × (new ≡ old)
AppendsName old new (Some name) named = (named ≡ true) × (new ≡ old ++ name)
