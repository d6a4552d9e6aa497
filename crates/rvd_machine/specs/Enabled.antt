-- Which analyzers work, and which of their items join a queue. Use `is_on` for an analyzer, `enabled_analyzers` for the list
-- of those that work, `woken_into` for what changes wake, and `all_candidates` for what a whole analysis has to look at.
use Rattle.std.specs.Prelude.{Bool, true, ◌&&◌, List, [], ◌∷◌, filter}
use Rattle.rvd_fact.specs.declared.cells.Change.{Change}
use Rattle.rvd_fact.specs.Program.{Program, applied}
use Rattle.rvd_ask.specs.declared.asks.Analyzer.{Analyzer}
use Rattle.rvd_ask.specs.declared.asks.Analyzer.TheVariants.{Flow, Refs, Funcs, Body, Strings}
use Rattle.rvd_ask.specs.declared.asks.Item.{Item}
use Rattle.rvd_ask.specs.Wake.{is_candidate}
use Rattle.rvd_ask.specs.Unsettled.{analyzers, items_where, woken}
use Rattle.rvd_queue.specs.Sets.{with_all}

-- for each analyzer, whether it is enabled
pub record Enabled : Type 0 where
  pub flow : Bool
  pub refs : Bool
  pub funcs : Bool
  pub body : Bool
  pub strings : Bool

abbrev pub is_on : Enabled → Analyzer → Bool
is_on E Flow = E.flow
is_on E Refs = E.refs
is_on E Funcs = E.funcs
is_on E Body = E.body
is_on E Strings = E.strings

-- at the start all are
abbrev pub all_on : Enabled
all_on = record { flow = true; refs = true; funcs = true; body = true; strings = true }

-- one is turned on or off
abbrev pub switched : Enabled → Analyzer → Bool → Enabled
switched E Flow on = record E { flow = on }
switched E Refs on = record E { refs = on }
switched E Funcs on = record E { funcs = on }
switched E Body on = record E { body = on }
switched E Strings on = record E { strings = on }

-- the enabled ones by priority
abbrev pub enabled_analyzers : Enabled → List Analyzer
enabled_analyzers E = filter (is_on E) analyzers

-- the items of enabled analyzers
abbrev pub only_on : Enabled → List Item → List Item
only_on E items = filter (λ (i : Item). is_on E i.analyzer) items

-- a queue gains the items of enabled analyzers that changes wake, each in the program after it, where S is the program
-- before them
abbrev pub woken_into : Enabled → Program → List Change → List Item → List Item
woken_into E S [] queue = queue
woken_into E S (c ∷ cs) queue = woken_into E (applied S c) cs (with_all (only_on E (woken (applied S c) c)) queue)

-- the candidates of all enabled analyzers
abbrev pub all_candidates : Enabled → Program → List Item
all_candidates E S = items_where (λ i. is_on E i.analyzer && is_candidate S i)
