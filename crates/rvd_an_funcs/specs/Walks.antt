-- What a step of the walk over a function's body finds and asks at an address, and what the walk asks in all. Use `reach` and
-- `reach_asks` of rvd_ask for the meaning.
use Rattle.std.specs.Prelude.{◌≡◌, ◌↔◌, ℕ, Bool, not, ◌&&◌, List, [], ◌∷◌, ◌++◌, Contains, if◌then◌else◌}
use Rattle.rvd_fact.specs.Program.{Program}
use Rattle.rvd_fact.specs.Memory.{unit_key, has_instruction}
use Rattle.rvd_ask.specs.declared.asks.Ask.{Ask}
use Rattle.rvd_ask.specs.declared.asks.Ask.TheVariants as ask
use Rattle.rvd_ask.specs.declared.answers.Answer.{Answer}
use Rattle.rvd_ask.specs.Answers.{only_if, told}
use Rattle.rvd_ask.specs.Body.{met_asks}
use Rattle.rvd_ask.specs.Reach.{has, may_join, ways}

-- whether an address joins the members, where these addresses were met before
abbrev pub joins : Program → List ℕ → ℕ → Bool
joins P met w = not (has w met) && may_join P w

-- the member and the ways that an address adds
abbrev pub new_member : Program → List ℕ → ℕ → List ℕ
new_member P met w = if joins P met w then w ∷ [] else []

abbrev pub new_ways : Program → List ℕ → ℕ → List ℕ
new_ways P met w = if joins P met w then ways P w else []

-- what is asked of an address
abbrev pub new_asks : Program → List ℕ → ℕ → List Ask
new_asks P met w = only_if (not (has w met)) (met_asks P w ++ only_if (may_join P w) (ask.From w ∷ []))

-- what is asked of the entry
abbrev pub entry_asks : Program → ℕ → List Ask
entry_asks P e = ask.Cell (unit_key e) ∷ only_if (has_instruction P e) (ask.From e ∷ [])

-- these reads were added by what a program tells to asks that are just these, whatever their order and however often
pub record Adds (P : Program) (old new : List (Ask × Answer)) (qs : List Ask) : Type 0 where
  pub asked : List Ask
  pub reads : new ≡ old ++ told P asked
  pub just : (q : Ask) → Contains asked q ↔ Contains qs q

-- the same beside an ask that was asked before
pub record AddsBeside (P : Program) (before : Ask) (old new : List (Ask × Answer)) (qs : List Ask) : Type 0 where
  pub asked : List Ask
  pub reads : new ≡ old ++ told P asked
  pub only : (q : Ask) → Contains asked q → Contains qs q
  pub all : (q : Ask) → Contains qs q → Contains (before ∷ asked) q
