-- What follows from verdicts on a job's items: the changes that are applied, and the items that join the queue, in order. Use
-- `changes_by` and `queued_by`, where W is the working program before them.
use Rattle.std.specs.Prelude.{List, [], ◌∷◌, ◌++◌}
use Rattle.rvd_fact.specs.declared.cells.Change.{Change}
use Rattle.rvd_fact.specs.Program.{Program, applied, applied_all}
use Rattle.rvd_ask.specs.declared.asks.Analyzer.{Analyzer}
use Rattle.rvd_ask.specs.declared.asks.Analyzer.TheVariants.{Flow, Refs, Funcs, Body, Strings}
use Rattle.rvd_ask.specs.declared.asks.Item.{Item}
use Rattle.rvd_ask.specs.Rules.{rule}
use Rattle.rvd_ask.specs.Unsettled.{woken}
use Rattle.rvd_event.specs.declared.verdicts.Verdict.{Verdict}
use Rattle.rvd_event.specs.declared.verdicts.Verdict.TheVariants.{Joined, Nothing, Off, Stale, Foreign}
use Rattle.rvd_machine.specs.Enabled.{Enabled, only_on}

-- the changes that a verdict applies
abbrev pub changes_of : Program → Item → Verdict → List Change
changes_of W i (Joined k) = rule W i
changes_of W i Nothing = []
changes_of W i Off = []
changes_of W i (Stale ask was now) = []
changes_of W i (Foreign ask said was) = []

abbrev pub program_after : Program → Item → Verdict → Program
program_after W i v = applied_all W (changes_of W i v)

-- the enabled analyzers' items that changes wake, change by change, each in the program after it
abbrev pub woken_in_turn : Enabled → Program → List Change → List Item
woken_in_turn E W [] = []
woken_in_turn E W (c ∷ cs) = only_on E (woken (applied W c) c) ++ woken_in_turn E (applied W c) cs

-- an item that joined returns, unless it is a body item
abbrev pub returning_of : Analyzer → Item → List Item
returning_of Flow i = i ∷ []
returning_of Refs i = i ∷ []
returning_of Funcs i = i ∷ []
returning_of Body i = []
returning_of Strings i = i ∷ []

-- the items that a verdict adds to the queue
abbrev pub items_of : Enabled → Program → Item → Verdict → List Item
items_of E W i (Joined k) = woken_in_turn E W (rule W i) ++ returning_of i.analyzer i
items_of E W i Nothing = []
items_of E W i Off = []
items_of E W i (Stale ask was now) = i ∷ []
items_of E W i (Foreign ask said was) = i ∷ []

-- the changes that verdicts apply, and the items that they add to the queue
abbrev pub changes_by : Program → List Item → List Verdict → List Change
changes_by W [] verdicts = []
changes_by W (i ∷ items) [] = []
changes_by W (i ∷ items) (v ∷ verdicts) = changes_of W i v ++ changes_by (program_after W i v) items verdicts

abbrev pub queued_by : Enabled → Program → List Item → List Verdict → List Item
queued_by E W [] verdicts = []
queued_by E W (i ∷ items) [] = []
queued_by E W (i ∷ items) (v ∷ verdicts) = items_of E W i v ++ queued_by E (program_after W i v) items verdicts
