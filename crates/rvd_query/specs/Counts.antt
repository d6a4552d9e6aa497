-- How many facts of each kind are present in a program. Use `counts_of` for the counts, `counts_text` for how they are
-- written, and `counted` for the counts with one more fact.
use Rattle.std.specs.Prelude.{ℕ, ◌+◌, ◌^◌, ◌<◌, ◌==◌, List, ◌++◌, count_by, codes, if◌then◌else◌}
use Rattle.std.specs.Fmt.{decimal}
use Rattle.rvd_fact.specs.declared.keys.Kind.{Kind}
use Rattle.rvd_fact.specs.declared.keys.Kind.TheVariants.{Block, Mark, Func, Symbol, Comment, Bookmark, Unit as UnitKind, Ref}
use Rattle.rvd_fact.specs.Order.{rank}
use Rattle.rvd_fact.specs.Program.{Program}
use Rattle.rvd_listing.specs.Lookups.{is_fact_of}
use Rattle.rvd_query.specs.declared.counting.Counts.{Counts}

-- how many facts of a kind are present
abbrev pub count_of : Kind → Program → ℕ
count_of kind S = count_by (is_fact_of kind) S

-- how many facts of each kind are present
unfoldable pub counts_of : Program → Counts
counts_of S = record {
  blocks = count_of Block S;
  units = count_of UnitKind S;
  symbols = count_of Symbol S;
  refs = count_of Ref S;
  funcs = count_of Func S;
  comments = count_of Comment S;
  bookmarks = count_of Bookmark S;
  marks = count_of Mark S;
}

-- one more, where a fact is of a kind
abbrev pub more_if : Kind → Kind → ℕ → ℕ
more_if own kind n = if rank own == rank kind then n + 1 else n

-- the counts with one more fact of a kind
abbrev pub counted : Counts → Kind → Counts
counted c own = record {
  blocks = more_if own Block c.blocks;
  units = more_if own UnitKind c.units;
  symbols = more_if own Symbol c.symbols;
  refs = more_if own Ref c.refs;
  funcs = more_if own Func c.funcs;
  comments = more_if own Comment c.comments;
  bookmarks = more_if own Bookmark c.bookmarks;
  marks = more_if own Mark c.marks;
}

-- each count may grow by one
pub record HasRoom (c : Counts) : Type 0 where
  pub blocks : c.blocks + 1 < 2 ^ 64
  pub units : c.units + 1 < 2 ^ 64
  pub symbols : c.symbols + 1 < 2 ^ 64
  pub refs : c.refs + 1 < 2 ^ 64
  pub funcs : c.funcs + 1 < 2 ^ 64
  pub comments : c.comments + 1 < 2 ^ 64
  pub bookmarks : c.bookmarks + 1 < 2 ^ 64
  pub marks : c.marks + 1 < 2 ^ 64

-- how counts are written
unfoldable pub counts_text : Counts → List ℕ
counts_text c =
    codes "blocks " ++ decimal c.blocks ++ codes " units " ++ decimal c.units ++ codes " symbols " ++ decimal c.symbols
    ++ codes " refs " ++ decimal c.refs ++ codes " funcs " ++ decimal c.funcs ++ codes " comments " ++ decimal c.comments
    ++ codes " bookmarks " ++ decimal c.bookmarks ++ codes " marks " ++ decimal c.marks
