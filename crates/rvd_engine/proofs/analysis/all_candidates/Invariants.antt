use Rattle.std.proofs.Common.{◌≡◌, take}
use Rattle.rvd_ask.specs.Unsettled.{analyzers}
use Rattle.rvd_engine.specs.Inside.{enabled_of}
use Rattle.rvd_engine.proofs.CandidateLists.{parts}
use Rattle.rvd_engine.proofs.analysis.all_candidates.Given as goal

abbrev pub invariant-loop-analyzer : goal.invariant-loop-analyzer
invariant-loop-analyzer l = l.list.items ≡ parts (enabled_of l.enabled) l.program (take l.analyzer-index analyzers)
