-- How many programs a history has. Use `past_length` and `undone_length`.
use Rattle.std.proofs.Common.{◌≡◌, List, [], ◌∷◌, length, suc, refl, ap}
use Rattle.rvd_fact.specs.declared.cells.Change.{Change}
use Rattle.rvd_fact.specs.Program.{Program, applied_all, reverted_all}
use Rattle.rvd_undo.specs.Records.{programs_back, programs_on}

pub past_length : (S : Program) (rs : List (List Change)) → length (programs_back S rs) ≡ length rs
past_length S [] = refl
past_length S (cs ∷ rs) = ap suc (past_length (reverted_all S cs) rs)

pub undone_length : (S : Program) (rs : List (List Change)) → length (programs_on S rs) ≡ length rs
undone_length S [] = refl
undone_length S (cs ∷ rs) = ap suc (undone_length (applied_all S cs) rs)
