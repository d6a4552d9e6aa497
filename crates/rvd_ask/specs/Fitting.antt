-- What it means that an analyzer's changes may be made. Use `FittingLaw` for an analyzer: it proposes nothing that a valid
-- program has no place for.
use Rattle.std.specs.Prelude.{ℕ}
use Rattle.rvd_fact.specs.Program.{Program}
use Rattle.rvd_fact.specs.Valid.{Fits, IsValid}
use Rattle.rvd_ask.specs.declared.asks.Analyzer.{Analyzer}
use Rattle.rvd_ask.specs.Rules.{rule}
use Rattle.rvd_ask.specs.Wake.{item}

-- on a valid program each change of the rule finds what it says at its turn, and leaves a valid program
abbrev pub FittingLaw : Analyzer → Type 0
FittingLaw a = (S : Program) (at : ℕ) → IsValid S → Fits S (rule S (item a at))
