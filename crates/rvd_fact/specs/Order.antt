-- The order of facts: by address, then by kind, then by `sub`. Programs list their cells in it.
use Rattle.std.specs.Prelude.{ℕ, Bool}
use Rattle.std.specs.declared.cmp.Ordering.{Ordering}
use Rattle.std.specs.Ordering.{nat_cmp, ordering_then, eq_by_cmp}
use Rattle.rvd_fact.specs.declared.keys.Kind.{Kind}
use Rattle.rvd_fact.specs.declared.keys.Kind.TheVariants.{Block, Mark, Func, Body, Symbol, Comment, Bookmark, Unit as UnitKind, Ref}
use Rattle.rvd_fact.specs.declared.keys.Key.{Key}

-- the place of a kind in their order
abbrev pub rank : Kind → ℕ
rank Block = 0
rank Mark = 1
rank Func = 2
rank Body = 3
rank Symbol = 4
rank Comment = 5
rank Bookmark = 6
rank UnitKind = 7
rank Ref = 8

-- by address, then kind, then sub
abbrev pub key_cmp : Key → Key → Ordering
key_cmp a b = ordering_then (nat_cmp a.at b.at) (ordering_then (nat_cmp (rank a.kind) (rank b.kind)) (nat_cmp a.sub b.sub))

-- whether two keys are one
abbrev pub same_key : Key → Key → Bool
same_key = eq_by_cmp key_cmp
