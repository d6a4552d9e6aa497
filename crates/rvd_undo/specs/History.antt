-- A history of whole programs, after the undo and redo of whole transactions in Ghidra's Program. Use `after_commit`,
-- `after_undo` and `after_redo` for its steps.
use Rattle.std.specs.Prelude.{List, [], ◌∷◌, take}
use Rattle.rvd_fact.specs.Program.{Program}
use Rattle.rvd_undo.specs.declared.limit.TheConstants.{UNDO_DEPTH}

-- the program now, those before it, and those that were undone; the latest is first in each list
pub record History : Type 0 where
  pub past : List Program
  pub now : Program
  pub undone : List Program

-- a commit of a program: the one before joins the past, of which the last are kept, and nothing is left to redo
abbrev pub after_commit : History → Program → History
after_commit h T = record { past = take UNDO_DEPTH (h.now ∷ h.past); now = T; undone = [] }

-- an undo goes back to the last of the past, where there is one
abbrev pub undo_to : History → List Program → History
undo_to h [] = h
undo_to h (p ∷ ps) = record { past = ps; now = p; undone = h.now ∷ h.undone }

abbrev pub after_undo : History → History
after_undo h = undo_to h h.past

-- a redo does the reverse
abbrev pub redo_to : History → List Program → History
redo_to h [] = h
redo_to h (p ∷ ps) = record { past = h.now ∷ h.past; now = p; undone = ps }

abbrev pub after_redo : History → History
after_redo h = redo_to h h.undone
