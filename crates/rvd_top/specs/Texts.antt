-- What is printed of the facts of a file. Use `block_lines` for its blocks, and `IsListed` for the listing after a whole analysis.
use Rattle.std.specs.Prelude.{◌≡◌, ℕ, Bool, true, false, List, [], ◌∷◌, ◌++◌, flat_map, codes, Option, None, Some, if◌then◌else◌}
use Rattle.rvd_fact.specs.declared.keys.Key.{Key}
use Rattle.rvd_fact.specs.declared.cells.Cell.{Cell}
use Rattle.rvd_fact.specs.declared.cells.Change.{Change}
use Rattle.rvd_fact.specs.declared.values.Value.{Value}
use Rattle.rvd_fact.specs.declared.values.Value.TheVariants.{Block}
use Rattle.rvd_fact.specs.Program.{Program}
use Rattle.rvd_text.specs.Hex.{hex8}
use Rattle.rvd_notation.specs.Values.{value_text}
use Rattle.rvd_report.specs.Listing.{listing}
use Rattle.rvd_machine.specs.State.{base}
use Rattle.rvd_desk.specs.Story.{Story, state_of}
use Rattle.rvd_player.specs.Analysed.{IsAnalysed}

abbrev pub is_block : Value → Bool
is_block (Block len perm bytes) = true
is_block value = false

-- the line of a cell: its address and its text
unfoldable pub cell_line : Key → Cell → List ℕ
cell_line k c = hex8 k.at ++ codes " " ++ value_text k c ++ 10 ∷ []

-- the line of the block that stands at a key, and nothing of another cell
abbrev pub block_line : Key → Option Cell → List ℕ
block_line k None = []
block_line k (Some c) = if is_block c.value then cell_line k c else []

-- the line of what a change leaves, where it is a block
unfoldable pub change_line : Change → List ℕ
change_line change = block_line change.key change.after

-- the lines of the blocks
abbrev pub block_lines : List Change → List ℕ
block_lines changes = flat_map change_line changes

-- a text is the listing of a program after a whole analysis
pub record IsListed (P : Program) (text : List ℕ) : Type 0 where
  pub reached : Story
  pub analysed : IsAnalysed P reached
  pub is_text : text ≡ listing (base (state_of reached))
