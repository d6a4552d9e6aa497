-- The changes that edits make, each with the cell that stands at its key before. Use `set` for a fact that an analyst
-- makes, `removed` for one that goes by an analyst's word, and `further` for what analysis made of it. `SetsNoAnalysis`
-- tells that changes leave nothing new to analysis, and `IsFew` bounds their number.
use Rattle.std.specs.Prelude.{◌≡◌, ◌≤◌, ℕ, zero, suc, ◌+◌, ◌%◌, Bool, true, false, List, [], ◌∷◌, ◌++◌, length, if◌then◌else◌, Option, Some, None}
use Rattle.rvd_fact.specs.declared.keys.Key.{Key}
use Rattle.rvd_fact.specs.declared.keys.Kind.TheVariants as kind
use Rattle.rvd_fact.specs.declared.cells.Cell.{Cell}
use Rattle.rvd_fact.specs.declared.cells.Change.{Change}
use Rattle.rvd_fact.specs.declared.values.Source.{Source}
use Rattle.rvd_fact.specs.declared.values.Source.TheVariants.{Analysis, UserDefined}
use Rattle.rvd_fact.specs.declared.values.Value.{Value}
use Rattle.rvd_fact.specs.declared.values.Value.TheVariants.{Gone}
use Rattle.rvd_fact.specs.Program.{Program, cell_at}
use Rattle.rvd_fact.specs.Memory.{has_instruction}
use Rattle.rvd_edit.specs.Slots.{slots, slot_key}
use Rattle.rvd_edit.specs.Spaces.{addresses}

-- a fact that an analyst made
abbrev pub of_analyst : Value → Cell
of_analyst v = record { value = v; source = UserDefined }

-- the fact stands at a key afterwards, whatever stood there
abbrev pub set : Program → Key → Value → Change
set S k v = record { key = k; before = cell_at S k; after = Some (of_analyst v) }

-- no cell stands at a key afterwards
abbrev pub dropped : Program → Key → Change
dropped S k = record { key = k; before = cell_at S k; after = None }

-- what a fact leaves behind when an analyst removes it: nothing where an analyst made it, and else Gone, so that analysis
-- doesn't bring it back
abbrev pub left_of : Source → Option Cell
left_of UserDefined = None
left_of source = Some (of_analyst Gone)

abbrev pub left_behind : Option Cell → Option Cell
left_behind None = None
left_behind (Some c) = left_of c.source

abbrev pub removed : Program → Key → Change
removed S k = record { key = k; before = cell_at S k; after = left_behind (cell_at S k) }

-- whether analysis made what stands at a key
abbrev pub is_analysis : Source → Bool
is_analysis Analysis = true
is_analysis source = false

abbrev pub is_found : Option Cell → Bool
is_found None = false
is_found (Some c) = is_analysis c.source

-- what analysis made at a key goes
abbrev pub further : Program → Key → List Change
further S k = if is_found (cell_at S k) then dropped S k ∷ [] else []

-- what analysis made in the lowest n slots for references of an address goes, in slot order
unfoldable pub further_refs : Program → ℕ → ℕ → List Change
further_refs S a zero = []
further_refs S a (suc slot) = further_refs S a slot ++ further S (slot_key kind.Ref a slot)

-- what analysis made of an instruction goes with it: the references from there, and the one at the next instruction's
-- address, slot 1
abbrev pub further_of_code : Program → ℕ → List Change
further_of_code S a = further_refs S a slots ++ further S (slot_key kind.Ref ((a + 4) % addresses) 1)

abbrev pub further_of_unit : Program → ℕ → List Change
further_of_unit S a = if has_instruction S a then further_of_code S a else []

-- whether a cell, or none, is no cell of analysis or of the imported file
abbrev pub is_user : Source → Bool
is_user UserDefined = true
is_user source = false

abbrev pub is_of_analyst : Option Cell → Bool
is_of_analyst None = true
is_of_analyst (Some c) = is_user c.source

-- after each change no cell stands at its key, or one that an analyst made
abbrev pub SetsNoAnalysis : List Change → Type 0
SetsNoAnalysis [] = Unit {0}
SetsNoAnalysis (c ∷ cs) = (is_of_analyst c.after ≡ true) × SetsNoAnalysis cs

-- at most one change for the unit or the fact itself, one for each slot, and one more
abbrev pub IsFew : List Change → Type 0
IsFew changes = length changes ≤ 66
