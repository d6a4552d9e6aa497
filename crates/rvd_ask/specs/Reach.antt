-- The reach of a function: the instructions that control comes to from its entry without a call, up to other functions;
-- and the ranges of their bytes. Use `IsReached` for what it means, `reach` where it has to compute, and `ReachLaw` for
-- that both are one.
use Rattle.std.specs.Prelude.{◌≡◌, ℕ, zero, suc, ◌+◌, ◌↔◌, Bool, true, false, ◌&&◌, ◌||◌, not, ◌==◌, List, [], ◌∷◌, ◌++◌, length, filter, filter_map, Option, Some, None, if◌then◌else◌}
use Rattle.std.specs.List.{list_any}
use Rattle.rvd_decode.specs.Flow.{falls_through}
use Rattle.rvd_fact.specs.declared.keys.Key.{Key}
use Rattle.rvd_fact.specs.declared.cells.Cell.{Cell}
use Rattle.rvd_fact.specs.declared.values.RefClass.{RefClass}
use Rattle.rvd_fact.specs.declared.values.RefClass.TheVariants.{Jump, Cond}
use Rattle.rvd_fact.specs.Program.{Program, cell_at, is_present}
use Rattle.rvd_fact.specs.Memory.{unit_key, func_key, is_code, has_instruction, refs_from}
use Rattle.rvd_fact.specs.Valid.{IsValid}
use Rattle.rvd_ask.specs.Places.{cell_instruction, next_word}

-- whether a reference stays in the function
abbrev pub is_inner : RefClass → Bool
is_inner Jump = true
is_inner Cond = true
is_inner class = false

abbrev pub inner_target : ℕ × RefClass × ℕ → Option ℕ
inner_target r = if is_inner r.1 then Some r.2 else None

-- where a cell at y with these references goes on: to the next word where it is an instruction that falls through, and to
-- the targets of the references
abbrev pub ways_of : ℕ → Option Cell → List (ℕ × RefClass × ℕ) → List ℕ
ways_of y o refs = (if falls_through_at o then next_word y ∷ [] else []) ++ filter_map inner_target refs
  where
    falls_through_at : Option Cell → Bool
    falls_through_at None = false
    falls_through_at (Some c) = is_code c.value && falls_through (cell_instruction (Some c))

abbrev pub ways : Program → ℕ → List ℕ
ways S y = ways_of y (cell_at S (unit_key y)) (refs_from S y)

-- whether a list has a number
abbrev pub has : ℕ → List ℕ → Bool
has z xs = list_any (λ y. y == z) xs

-- whether an address may be a further member: an instruction is there and no function begins
abbrev pub may_join : Program → ℕ → Bool
may_join S z = has_instruction S z && not (is_present (cell_at S (func_key z)))

-- whether z follows from y
abbrev pub follows : Program → ℕ → ℕ → Bool
follows S y z = has z (ways S y) && may_join S z

-- a walk of n steps from e to z
abbrev pub Walk : Program → ℕ → ℕ → ℕ → Type 0
Walk S e z zero = (z ≡ e) × (has_instruction S e ≡ true)
Walk S e z (suc n) = (y : ℕ) × Walk S e y n × (follows S y z ≡ true)

-- the least set that has e where an instruction is there, and with each member what follows from it: the ends of walks
abbrev pub IsReached : Program → ℕ → ℕ → Type 0
IsReached S e z = (n : ℕ) × Walk S e z n

-- the addresses of the instructions, in order
abbrev pub code_address : Key × Cell → Option ℕ
code_address e = if is_code e.1.value then Some e.0.at else None

abbrev pub code_addresses : Program → List ℕ
code_addresses S = filter_map code_address S

-- members with what follows from them, in order
abbrev pub grown : Program → List ℕ → List ℕ → List ℕ
grown S all xs = filter (λ z. has z xs || list_any (λ y. follows S y z) xs) all

-- a function n times over
abbrev pub times : {A : Type 0} → ℕ → (A → A) → A → A
times zero f x = x
times (suc n) f x = f (times n f x)

abbrev pub grown_times : Program → ℕ → ℕ → List ℕ
grown_times S e n = times n (grown S (code_addresses S)) (filter (λ z. z == e) (code_addresses S))

-- the members of the reach of e, in order: as there are no more than instructions, they have stopped growing by then
unfoldable pub reach : Program → ℕ → List ℕ
reach S e = grown_times S e (length (code_addresses S))

-- the reach has just the ends of walks
abbrev pub ReachLaw : Type 0
ReachLaw = (S : Program) (e z : ℕ) → IsValid S → (has z (reach S e) ≡ true) ↔ IsReached S e z

-- a set of ranges with the four bytes at z before it
abbrev pub with_word : ℕ → List (ℕ × ℕ) → List (ℕ × ℕ)
with_word z [] = (z, z + 3) ∷ []
with_word z (r ∷ rs) = if r.0 == z + 4 then (z, r.1) ∷ rs else (z, z + 3) ∷ r ∷ rs

-- the ranges of the bytes of instructions
abbrev pub spans : List ℕ → List (ℕ × ℕ)
spans [] = []
spans (z ∷ zs) = with_word z (spans zs)
