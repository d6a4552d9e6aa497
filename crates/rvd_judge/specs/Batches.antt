-- The parts that a batch is judged with. Use `enabled_in` for the analyzers that a list names, and `batch_on` for a batch
-- before its first verdict.
use Rattle.std.specs.Prelude.{Bool, true, false, List, [], ◌∷◌}
use Rattle.std.specs.List.{list_any}
use Rattle.rvd_fact.specs.Program.{Program}
use Rattle.rvd_ask.specs.declared.asks.Analyzer.{Analyzer}
use Rattle.rvd_ask.specs.declared.asks.Analyzer.TheVariants.{Flow, Refs, Funcs, Body, Strings}
use Rattle.rvd_ask.specs.declared.asks.Item.{Item}
use Rattle.rvd_ask.specs.Unsettled.{same_analyzer}
use Rattle.rvd_machine.specs.Enabled.{Enabled}
use Rattle.rvd_machine.specs.Verdicts.{Batch}

-- for each analyzer, whether it is among these
abbrev pub enabled_in : List Analyzer → Enabled
enabled_in analyzers = record {
  flow = list_any (same_analyzer Flow) analyzers;
  refs = list_any (same_analyzer Refs) analyzers;
  funcs = list_any (same_analyzer Funcs) analyzers;
  body = list_any (same_analyzer Body) analyzers;
  strings = list_any (same_analyzer Strings) analyzers;
}

-- a batch before its first verdict
abbrev pub batch_on : Program → List Item → Batch
batch_on W queue = record { work = W; queue = queue; changes = 0; joined = false }

abbrev pub is_none_in : {A : Type 0} → List A → Bool
is_none_in [] = true
is_none_in (x ∷ xs) = false
