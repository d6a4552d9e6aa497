-- What a proposal promises of its reads and its changes. Use `KeepsPromise` as the condition of whatever makes a proposal.
use Rattle.std.specs.Prelude.{◌≡◌, ◌↔◌, Bool, true, List, Contains, map}
use Rattle.std.specs.List.{list_all}
use Rattle.rvd_fact.specs.declared.cells.Change.{Change}
use Rattle.rvd_fact.specs.Program.{Program}
use Rattle.rvd_fact.specs.Valid.{IsValid}
use Rattle.rvd_ask.specs.declared.asks.Ask.{Ask}
use Rattle.rvd_ask.specs.declared.asks.Item.{Item}
use Rattle.rvd_ask.specs.declared.answers.Answer.{Answer}
use Rattle.rvd_ask.specs.Answers.{Hold}
use Rattle.rvd_ask.specs.Forms.{has_form}
use Rattle.rvd_ask.specs.Rules.{rule}

-- whether each answer has the form of its ask
abbrev pub are_reads : List (Ask × Answer) → Bool
are_reads reads = list_all (λ r. has_form r.0 r.1) reads

-- a proposal as a value
pub record Proposed : Type 0 where
  pub item : Item
  pub reads : List (Ask × Answer)
  pub changes : List Change

-- on whatever valid program the reads hold of, the changes are those of the item's rule
pub record KeepsPromise (p : Proposed) : Type 0 where
  pub reads : are_reads p.reads ≡ true
  pub kept : (S : Program) → IsValid S → Hold S p.reads → rule S p.item ≡ p.changes

-- the asks of reads are just these, whatever their order and however often
abbrev pub AreAsks : List (Ask × Answer) → List Ask → Type 0
AreAsks reads qs = (q : Ask) → Contains (map (λ r. r.0) reads) q ↔ Contains qs q
