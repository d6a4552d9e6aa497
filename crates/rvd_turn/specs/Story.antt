-- Stories. A story is a head and a list of entries, each with an owner number; a prefix of a story has the same head and a prefix of its entries.
-- These are the words for the entries: which are of one owner, and how a story goes on.
use Rattle.std.specs.Prelude.{◌≡◌, ℕ, List, ◌++◌, length, All, filter, eqb, ltb, cond}
pub use mathlib.Core.List.{IsPrefix}

-- The entries of the owner n, in order.
abbrev pub owned : {E : Type 0} → (E → ℕ) → ℕ → List E → List E
owned owner n log = filter (λ e. eqb (owner e) n) log

-- The log begins with what was seen, and goes on with entries of the owner n alone.
abbrev pub Continues : {E : Type 0} → (E → ℕ) → ℕ → List E → List E → Type 0
Continues {E} owner n seen log = (new : List E) × (log ≡ seen ++ new) × All (λ e. owner e ≡ n) new

-- The longer of two lists: the second, where the first is shorter.
abbrev pub longer : {A : Type 0} → List A → List A → List A
longer xs ys = cond (ltb (length xs) (length ys)) ys xs
