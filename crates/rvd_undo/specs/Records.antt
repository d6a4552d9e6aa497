-- Records of changes, and the history that they stand for with a program. Use `history` for it, `Stands` for what undo
-- and redo need, and `IsCommit` for what a push promises.
use Rattle.std.specs.Prelude.{◌≡◌, ℕ, ◌+◌, ◌≤◌, List, [], ◌∷◌, length, take}
use Rattle.rvd_fact.specs.declared.cells.Change.{Change}
use Rattle.rvd_fact.specs.Program.{Program, applied_all, reverted_all}
use Rattle.rvd_fact.specs.Valid.{IsValid, Fits}
use Rattle.rvd_undo.specs.History.{History, after_commit}
use Rattle.rvd_undo.specs.declared.limit.TheConstants.{UNDO_DEPTH}

-- the changes of the transactions that can be undone, and of those that can be redone; the latest is first in each list
pub record Records : Type 0 where
  pub undos : List (List Change)
  pub redos : List (List Change)

-- records, and how many can be pushed without taking memory
pub record Contents : Type 0 where
  pub records : Records
  pub spare : ℕ

-- the programs that records lead back to from a program, and on to
abbrev pub programs_back : Program → List (List Change) → List Program
programs_back S [] = []
programs_back S (cs ∷ rs) = reverted_all S cs ∷ programs_back (reverted_all S cs) rs

abbrev pub programs_on : Program → List (List Change) → List Program
programs_on S [] = []
programs_on S (cs ∷ rs) = applied_all S cs ∷ programs_on (applied_all S cs) rs

-- the history that a program and records stand for
abbrev pub history : Program → Records → History
history S r = record { past = programs_back S r.undos; now = S; undone = programs_on S r.redos }

-- changes that fit a program and lead from it to another, both valid
pub record Lead (T : Program) (cs : List Change) (S : Program) : Type 0 where
  pub before : IsValid T
  pub fits : Fits T cs
  pub to : applied_all T cs ≡ S
  pub after : IsValid S

-- each record led to the program that it is undone from
abbrev pub LedTo : Program → List (List Change) → Type 0
LedTo S [] = Unit {0}
LedTo S (cs ∷ rs) = Lead (reverted_all S cs) cs S × LedTo (reverted_all S cs) rs

-- each record leads on from the program that it is redone on
abbrev pub LeadOn : Program → List (List Change) → Type 0
LeadOn S [] = Unit {0}
LeadOn S (cs ∷ rs) = Lead S cs (applied_all S cs) × LeadOn (applied_all S cs) rs

-- a program and at most 50 records stand for a history
pub record Stands (S : Program) (r : Records) : Type 0 where
  pub valid : IsValid S
  pub back : LedTo S r.undos
  pub on : LeadOn S r.redos
  pub few : length r.undos + length r.redos ≤ UNDO_DEPTH

-- the records with one more transaction in front
abbrev pub after_push : Records → List Change → Records
after_push r cs = record { undos = take UNDO_DEPTH (cs ∷ r.undos); redos = [] }

-- with each program that they stand for a history, the new records stand for the one after the commit of these changes
abbrev pub IsCommit : Records → List Change → Records → Type 0
IsCommit old cs new =
    (S : Program) → Stands S old → Fits S cs →
    Stands (applied_all S cs) new × (history (applied_all S cs) new ≡ after_commit (history S old) (applied_all S cs))
