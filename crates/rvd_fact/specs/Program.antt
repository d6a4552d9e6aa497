-- A program is a finite map from keys to cells, kept as the list of its entries in the order of their
-- keys. Use `cell_at` for what stands at a key, and `applied` and `reverted` for what changes do.
use Rattle.std.specs.Prelude.{Bool, true, false, ◌||◌, not, T, List, [], ◌∷◌, Option, Some, None}
use Rattle.std.specs.FinMap.{find, put, is_sorted}
use Rattle.std.specs.FinMap.Entries.{where_key}
use Rattle.rvd_fact.specs.Order.{key_cmp, same_key}
use Rattle.rvd_fact.specs.declared.keys.Key.{Key}
use Rattle.rvd_fact.specs.declared.cells.Cell.{Cell}
use Rattle.rvd_fact.specs.declared.cells.Change.{Change}
use Rattle.rvd_fact.specs.declared.values.Source.{Source}
use Rattle.rvd_fact.specs.declared.values.Source.TheVariants.{Imported, UserDefined}
use Rattle.rvd_fact.specs.declared.values.Value.{Value}
use Rattle.rvd_fact.specs.declared.values.Value.TheVariants.{Gone}

abbrev pub Program : Type 0
Program = List (Key × Cell)

-- the cell at a key
abbrev pub cell_at : Program → Key → Option Cell
cell_at S k = find key_cmp k S

-- the program with this at a key, and all else as it is
abbrev pub placed : Program → Key → Option Cell → Program
placed S k (Some c) = put key_cmp k c S
placed S k None = where_key key_cmp (λ x. not (same_key k x)) S

-- the program after a change, and before one that led to it
abbrev pub applied : Program → Change → Program
applied S c = placed S c.key c.after

abbrev pub reverted : Program → Change → Program
reverted S c = placed S c.key c.before

-- after changes in order
abbrev pub applied_all : Program → List Change → Program
applied_all S [] = S
applied_all S (c ∷ cs) = applied_all (applied S c) cs

-- before changes that led to it, undone from the last to the first
abbrev pub reverted_all : Program → List Change → Program
reverted_all S [] = S
reverted_all S (c ∷ cs) = reverted (reverted_all S cs) c

-- each key comes once, in order
abbrev pub IsInOrder : Program → Type 0
IsInOrder S = T (is_sorted key_cmp S)

-- whether a value is what a deleted fact left behind
abbrev pub is_gone : Value → Bool
is_gone Gone = true
is_gone v = false

-- whether a fact is present: its cell is there, and isn't Gone
abbrev pub is_present : Option Cell → Bool
is_present None = false
is_present (Some c) = not (is_gone c.value)

-- whether a source is that of the imported file or of an analyst
abbrev pub is_given : Source → Bool
is_given Imported = true
is_given UserDefined = true
is_given s = false

-- whether a cell is protected from analysis: it was imported, an analyst made it, or it is Gone
abbrev pub is_protected : Cell → Bool
is_protected c = is_given c.source || is_gone c.value
