-- What a function returned that gives the changes of an edit: they fit, leave nothing new to analysis, and are
-- few.
use Rattle.std.proofs.Common.{◌≡◌, true, Ok, Err, Vec, Global}
use Rattle.std.specs.Prelude.{IfOk, Result}
use Rattle.rvd_fact.specs.declared.cells.Change.{Change}
use Rattle.rvd_fact.specs.Program.{Program}
use Rattle.rvd_fact.specs.Valid.{Fits, IsValid}
use Rattle.rvd_event.specs.declared.edits.Edit.{Edit}
use Rattle.rvd_event.specs.Edits.{is_edit}
use Rattle.rvd_edit.specs.declared.edit_error.EditError.{EditError}
use Rattle.rvd_edit.specs.Changes.{IsFew, SetsNoAnalysis}
use Rattle.rvd_edit.specs.Edits.{edit_of}
use Rattle.rvd_edit.specs.Steps.{Gives}
use Rattle.rvd_edit.proofs.EditsFit.{edits_fit}
use Rattle.rvd_edit.proofs.NoAnalysis.{no_analysis}
use Rattle.rvd_edit.proofs.FewChanges.{few_changes}

pub fits_given : (r : Result (Vec Change Global) EditError) (S : Program) (e : Edit) → IsValid S → Gives r (edit_of S e) → IfOk r (λ v. is_edit e ≡ true → Fits S v.items)
fits_given (Ok v) S e valid given = λ legal. edits_fit S e v.items valid legal given
fits_given (Err d) S e valid given = tt

pub analysis_given : (r : Result (Vec Change Global) EditError) (S : Program) (e : Edit) → Gives r (edit_of S e) → IfOk r (λ v. SetsNoAnalysis v.items)
analysis_given (Ok v) S e given = no_analysis S e v.items given
analysis_given (Err d) S e given = tt

pub few_given : (r : Result (Vec Change Global) EditError) (S : Program) (e : Edit) → Gives r (edit_of S e) → IfOk r (λ v. IsFew v.items)
few_given (Ok v) S e given = few_changes S e v.items given
few_given (Err d) S e given = tt
