-- An actor at the front of a text: a session or a worker by its number, counted from 1.
use Rattle.std.specs.Prelude.{ℕ, ◌+◌, ◌&&◌, nat_lt, List, [], ◌∷◌, Some, None, if◌then◌else◌, codes}
use Rattle.rvd_event.specs.declared.queries.Names.{Names}
use Rattle.rvd_reading.specs.Steps.{◌>>=◌, Step}
use Rattle.rvd_reading.specs.Fixed.{choose, nothing}
use Rattle.rvd_reading.specs.Numbers.{number_of}

-- the number of an actor whose number among its like is n, behind the numbers of others
abbrev pub placed : ℕ → ℕ × List ℕ → Step ℕ
placed others n = if nat_lt 0 n.0 && nat_lt (others + n.0) 4294967296 then Some (others + n.0, n.1) else None

-- the actor whose number among its like is written, at most so large
abbrev pub numbered : ℕ → ℕ → List ℕ → Step ℕ
numbered others most bytes = number_of most bytes >>= placed others

unfoldable pub actor_of : Names → List ℕ → Step ℕ
actor_of names bytes = choose ((codes "s", numbered 0 names.sessions) ∷ (codes "w", numbered names.sessions names.workers) ∷ []) nothing bytes
