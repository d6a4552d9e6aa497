-- Which analyzers a list names. Use `among` for one.
use Rattle.std.proofs.Common.{◌≡◌, List, refl}
use Rattle.std.specs.List.{list_any}
use Rattle.rvd_ask.specs.declared.asks.Analyzer.{Analyzer}
use Rattle.rvd_ask.specs.declared.asks.Analyzer.TheVariants.{Flow, Refs, Funcs, Body, Strings}
use Rattle.rvd_ask.specs.Unsettled.{same_analyzer}
use Rattle.rvd_machine.specs.Enabled.{is_on}
use Rattle.rvd_judge.specs.Batches.{enabled_in}

pub among : (analyzers : List Analyzer) (a : Analyzer) → list_any (same_analyzer a) analyzers ≡ is_on (enabled_in analyzers) a
among analyzers Flow = refl
among analyzers Refs = refl
among analyzers Funcs = refl
among analyzers Body = refl
among analyzers Strings = refl
