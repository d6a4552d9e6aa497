-- What it means that the changes of an analyzer's rule leave nothing to change. Use `SettlingLaw` for a rule as a whole.
use Rattle.std.specs.Prelude.{◌≡◌, ℕ, []}
use Rattle.rvd_fact.specs.Program.{Program, applied_all}
use Rattle.rvd_fact.specs.Valid.{IsValid}
use Rattle.rvd_ask.specs.declared.asks.Analyzer.{Analyzer}
use Rattle.rvd_ask.specs.Rules.{rule}
use Rattle.rvd_ask.specs.Wake.{item}

-- on a valid program, after the changes of the rule at an address the rule has no change there
abbrev pub SettlingLaw : Analyzer → Type 0
SettlingLaw a = (S : Program) (at : ℕ) → IsValid S → rule (applied_all S (rule S (item a at))) (item a at) ≡ []
