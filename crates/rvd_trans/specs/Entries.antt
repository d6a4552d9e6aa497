-- The live entries of a transaction, in the order in which they joined, and what becomes of an actor's. Use these
-- through the words of `Transaction`, which say what becomes of the whole transaction.
use Rattle.std.specs.Prelude.{ℕ, Bool, not, ◌==◌, nat_lt, List, [], ◌∷◌, count_by, filter, if◌then◌else◌}
use Rattle.rvd_trans.specs.declared.entries.Entry.{Entry}

-- how many of the entries are an actor's
abbrev pub count_of : ℕ → List Entry → ℕ
count_of actor entries = count_by (λ (entry : Entry). entry.actor == actor) entries

-- whether an actor has an entry
abbrev pub has_of : ℕ → List Entry → Bool
has_of actor entries = nat_lt 0 (count_of actor entries)

-- the entries without an actor's newest, which is the last of its entries
abbrev pub without_newest : ℕ → List Entry → List Entry
without_newest actor [] = []
without_newest actor (entry ∷ entries) =
    if has_of actor entries then entry ∷ without_newest actor entries
    else if entry.actor == actor then entries
    else entry ∷ entries

-- the entries of the others
abbrev pub without_all : ℕ → List Entry → List Entry
without_all actor entries = filter (λ (entry : Entry). not (entry.actor == actor)) entries
