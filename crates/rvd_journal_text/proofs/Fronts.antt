-- Where a later part of a text fails, the front is kept. Use `OnErr-front` where two or more parts have been appended before
-- the call that a function ends with.
use Rattle.std.proofs.Common.{◌≡◌, ℕ, List, ◌++◌, Result, Ok, Err, OnOk, OnErr, subst}
use Rattle.rvd_notation.specs.Pieces.{Keeps}
use Rattle.rvd_notation.proofs.Kept.{Keeps-front}

pub OnErr-front : {A E : Type 0} (front more middle new : List ℕ) (r : Result A E) → middle ≡ front ++ more → OnErr r (Keeps middle new) → OnErr r (Keeps front new)
OnErr-front front more middle new (Ok x) e h = tt
OnErr-front front more middle new (Err x) e h = Keeps-front front more new (subst (λ m. Keeps m new) e h)

-- what follows from what holds on Ok
pub OnOk-along : {A E P Q : Type 0} (r : Result A E) → (P → Q) → OnOk r P → OnOk r Q
OnOk-along (Ok x) f h = f h
OnOk-along (Err x) f h = tt
