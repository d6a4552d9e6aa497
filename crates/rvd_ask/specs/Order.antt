-- The order in which items are worked on: by the analyzer's priority, the lowest number first, then by address.
-- Use `item_cmp` for it, and `same_item` to tell whether two items are one.
use Rattle.std.specs.Prelude.{ℕ, Bool}
use Rattle.std.specs.declared.cmp.Ordering.{Ordering}
use Rattle.std.specs.Ordering.{nat_cmp, ordering_then, eq_by_cmp}
use Rattle.rvd_ask.specs.declared.asks.Analyzer.{Analyzer}
use Rattle.rvd_ask.specs.declared.asks.Analyzer.TheVariants.{Flow, Refs, Funcs, Body, Strings}
use Rattle.rvd_ask.specs.declared.asks.Item.{Item}

-- an analyzer's priority
abbrev pub priority : Analyzer → ℕ
priority Flow = 300
priority Refs = 400
priority Funcs = 500
priority Body = 600
priority Strings = 700

-- by priority, then by address
abbrev pub item_cmp : Item → Item → Ordering
item_cmp a b = ordering_then (nat_cmp (priority a.analyzer) (priority b.analyzer)) (nat_cmp a.at b.at)

-- whether two items are one
abbrev pub same_item : Item → Item → Bool
same_item = eq_by_cmp item_cmp
