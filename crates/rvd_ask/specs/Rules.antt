-- The rules of the five analyzers: the changes that an item proposes on a program, and what it asks. Use `rule` and `asks`
-- for an item; `SparingLaw` says that no rule touches a protected cell.
use Rattle.std.specs.Prelude.{◌≡◌, ℕ, Bool, true, false, not, ◌&&◌, List, Some}
use Rattle.std.specs.List.{list_all}
use Rattle.std.specs.Option.{option_map_or}
use Rattle.rvd_fact.specs.declared.keys.Key.{Key}
use Rattle.rvd_fact.specs.declared.cells.Cell.{Cell}
use Rattle.rvd_fact.specs.declared.cells.Change.{Change}
use Rattle.rvd_fact.specs.Program.{Program, cell_at, applied_all, is_protected}
use Rattle.rvd_fact.specs.Valid.{IsValid}
use Rattle.rvd_ask.specs.declared.asks.Analyzer.{Analyzer}
use Rattle.rvd_ask.specs.declared.asks.Analyzer.TheVariants.{Flow, Refs, Funcs, Body, Strings}
use Rattle.rvd_ask.specs.declared.asks.Ask.{Ask}
use Rattle.rvd_ask.specs.declared.asks.Item.{Item}
use Rattle.rvd_ask.specs.Flow.{flow_asks, flow_rule}
use Rattle.rvd_ask.specs.Refs.{refs_asks, refs_rule}
use Rattle.rvd_ask.specs.Funcs.{funcs_asks, funcs_rule}
use Rattle.rvd_ask.specs.Body.{body_asks, body_rule, is_analysis}
use Rattle.rvd_ask.specs.Strings.{strings_asks, strings_rule}

-- the changes of an analyzer's rule at an address
abbrev pub rule_of : Analyzer → Program → ℕ → List Change
rule_of Flow S a = flow_rule S a
rule_of Refs S a = refs_rule S a
rule_of Funcs S a = funcs_rule S a
rule_of Body S a = body_rule S a
rule_of Strings S a = strings_rule S a

abbrev pub asks_of : Analyzer → Program → ℕ → List Ask
asks_of Flow S a = flow_asks S a
asks_of Refs S a = refs_asks S a
asks_of Funcs S a = funcs_asks S a
asks_of Body S a = body_asks S a
asks_of Strings S a = strings_asks S a

-- the changes of an item's rule
unfoldable pub rule : Program → Item → List Change
rule S i = rule_of i.analyzer S i.at

-- what an item's rule asks, in order; for a body the order and repetitions are free
unfoldable pub asks : Program → Item → List Ask
asks S i = asks_of i.analyzer S i.at

-- whether a change touches no protected cell and sets an analyzer's
abbrev pub is_sparing : Change → Bool
is_sparing c = not (option_map_or is_protected c.before false) && option_map_or (λ (cell : Cell). is_analysis cell.source) c.after false

-- the changes of a rule set analyzers' cells alone, and leave each protected cell as it was
pub record Spares (S : Program) (cs : List Change) : Type 0 where
  pub each : list_all is_sparing cs ≡ true
  pub kept : (k : Key) (c : Cell) → cell_at S k ≡ Some c → is_protected c ≡ true → cell_at (applied_all S cs) k ≡ Some c

abbrev pub SparingLaw : Analyzer → Type 0
SparingLaw a = (S : Program) (at : ℕ) → IsValid S → Spares S (rule S (record { analyzer = a; at = at }))
