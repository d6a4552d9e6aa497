-- The laws of edits over their definition: what an edit changes can be applied to the program (`FitsLaw`), nothing that
-- it sets is analysis' (`NoAnalysisLaw`), and an overlap names the first unit that the new bytes meet (`FirstMetLaw`).
use Rattle.std.specs.Prelude.{◌≡◌, ℕ, ◌+◌, ◌<◌, true, List, Some, None, Ok, MatchOption}
use Rattle.rvd_fact.specs.declared.cells.Change.{Change}
use Rattle.rvd_fact.specs.Program.{Program}
use Rattle.rvd_fact.specs.Memory.{cover, unit_len}
use Rattle.rvd_fact.specs.Valid.{IsValid, Fits}
use Rattle.rvd_event.specs.declared.edits.Edit.{Edit}
use Rattle.rvd_event.specs.Edits.{is_edit}
use Rattle.rvd_edit.specs.Spaces.{first_met}
use Rattle.rvd_edit.specs.Changes.{SetsNoAnalysis}
use Rattle.rvd_edit.specs.Edits.{edit_of}

-- the changes of an edit whose parts are in their ranges fit a valid program
abbrev pub FitsLaw : Type 0
FitsLaw = (S : Program) (e : Edit) (cs : List Change) → IsValid S → is_edit e ≡ true → edit_of S e ≡ Ok cs → Fits S cs

-- the changes of an edit set only what is an analyst's
abbrev pub NoAnalysisLaw : Type 0
NoAnalysisLaw = (S : Program) (e : Edit) (cs : List Change) → edit_of S e ≡ Ok cs → SetsNoAnalysis cs

-- the present unit that begins at an address is the first that the n bytes from another address on meet, the lowest
-- byte first: one of them is its, and none below is any unit's
pub record IsFirstMet (S : Program) (a n start : ℕ) : Type 0 where
  pub byte : ℕ
  pub within : byte < n
  pub covered : cover S (a + byte) ≡ Some start
  pub below : (k : ℕ) → k < byte → cover S (a + k) ≡ None

-- the unit that an overlap names is the first one met, and there is none exactly where no byte is a unit's
abbrev pub FirstMetLaw : Type 0
FirstMetLaw = (S : Program) (a n : ℕ) → IsValid S → 0 < n → MatchOption (first_met unit_len S a n) ((k : ℕ) → k < n → cover S (a + k) ≡ None) (IsFirstMet S a n)
