-- The listing of a program: a head line with the number of lines that follow, and a line for each of its
-- entries in the order of their keys.
use Rattle.std.specs.Prelude.{ℕ, List, [], ◌∷◌, ◌++◌, flat_map, length, codes}
use Rattle.std.specs.Fmt.{decimal}
use Rattle.rvd_fact.specs.declared.keys.Key.{Key}
use Rattle.rvd_fact.specs.declared.cells.Cell.{Cell}
use Rattle.rvd_fact.specs.Program.{Program}
use Rattle.rvd_listing.specs.Lines.{line}

-- the line of an entry with its line feed
unfoldable pub full_line : Program → Key × Cell → List ℕ
full_line S e = line S e ++ 10 ∷ []

-- the lines of entries of a program
abbrev pub lines : Program → List (Key × Cell) → List ℕ
lines S es = flat_map (full_line S) es

unfoldable pub listing : Program → List ℕ
listing S = codes "listing " ++ decimal (length S) ++ 10 ∷ [] ++ lines S S
