-- What the machine needs to know of the analyzers, over the definitions alone: what a change can unsettle is woken, what is
-- unsettled is a candidate, and what a rule proposes can be done and spares what is protected. Use `AnalysisLaws` for all of
-- it, and `LeadAll` for changes that lead from valid program to valid program.
use Rattle.std.specs.Prelude.{◌≡◌, ℕ, ◌^◌, false, ◌&&◌, List, [], ◌∷◌}
use Rattle.rvd_fact.specs.declared.cells.Change.{Change}
use Rattle.rvd_fact.specs.Program.{Program, applied, applied_all}
use Rattle.rvd_fact.specs.Valid.{IsValid}
use Rattle.rvd_ask.specs.declared.asks.Analyzer.{Analyzer}
use Rattle.rvd_ask.specs.declared.asks.Analyzer.TheVariants.{Body}
use Rattle.rvd_ask.specs.declared.asks.Item.{Item}
use Rattle.rvd_ask.specs.Rules.{rule, Spares}
use Rattle.rvd_ask.specs.Unsettled.{candidates, has_item, same_analyzer, woken, ListsJust}
use Rattle.rvd_ask.specs.Wake.{is_candidate, item, wakes, Leads}

-- each change leads on from the program that the ones before it made
abbrev pub LeadAll : Program → List Change → Type 0
LeadAll S [] = Unit {0}
LeadAll S (c ∷ cs) = Leads S c × LeadAll (applied S c) cs

-- what is unsettled after a change and isn't woken by it was unsettled before
abbrev pub WokenLaw : Type 0
WokenLaw = (S : Program) (c : Change) (i : Item) → Leads S c → has_item i (woken (applied S c) c) ≡ false → rule S i ≡ [] → rule (applied S c) i ≡ []

-- what is unsettled is listed among its analyzer's candidates
abbrev pub ListedLaw : Type 0
ListedLaw = (S : Program) (i : Item) → IsValid S → has_item i (candidates S i.analyzer) ≡ false → rule S i ≡ []

-- the lists have just the items at addresses that a change wakes, and that are candidates, in order
abbrev pub WokenIsListed : Type 0
WokenIsListed = (T : Program) (c : Change) → ListsJust (2 ^ 32) (wakes T c) (woken T c)

abbrev pub CandidatesAreListed : Type 0
CandidatesAreListed = (S : Program) (a : Analyzer) → ListsJust (2 ^ 32) (λ i. same_analyzer a i.analyzer && is_candidate S i) (candidates S a)

-- all of it, for the five analyzers; the changes of a body's item settle it
pub record AnalysisLaws : Type 0 where
  pub wake : WokenLaw
  pub candidate : ListedLaw
  pub fits : (S : Program) (i : Item) → IsValid S → LeadAll S (rule S i)
  pub spares : (S : Program) (i : Item) → IsValid S → Spares S (rule S i)
  pub body_settled : (S : Program) (e : ℕ) → IsValid S → rule (applied_all S (rule S (item Body e))) (item Body e) ≡ []
  pub woken : WokenIsListed
  pub candidates : CandidatesAreListed
