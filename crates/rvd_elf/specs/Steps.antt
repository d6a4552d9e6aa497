-- Steps of an import, of which the first refusal decides. Use `do` blocks over `◌>>=◌`, `require` for tests,
-- and `in_turn` for steps that a table's entries make one after the other.
use Rattle.std.specs.Prelude.{◌≡◌, ℕ, zero, suc, Bool, if◌then◌else◌, List, [], ◌∷◌, ◌++◌, Result, Ok, Err}
use Rattle.rvd_elf.specs.declared.refusals.ElfError.{ElfError}
use Rattle.rvd_elf.specs.declared.refusals.ElfError.TheVariants.{OutOfMemory}

infixl 10 ◌>>=◌
abbrev pub ◌>>=◌ : {A B : Type 0} → Result A ElfError → (A → Result B ElfError) → Result B ElfError
(Ok x) >>= f = f x
(Err e) >>= f = Err e

infixl 10 ◌>>◌
abbrev pub ◌>>◌ : {A B : Type 0} → Result A ElfError → Result B ElfError → Result B ElfError
r >> s = r >>= (λ _. s)

-- tests in their order, each with the refusal where it fails
abbrev pub require : List (Bool × ElfError) → Result (Unit {0}) ElfError
require [] = Ok tt
require (t ∷ ts) = if t.0 then require ts else Err t.1

-- what a step gives, behind what those before gave
abbrev pub behind : {A : Type 0} → List A → Result (List A) ElfError → Result (List A) ElfError
behind before here = here >>= (λ xs. Ok (before ++ xs))

-- the lists that the steps 0 to n - 1 give, one behind the other
abbrev pub in_turn : {A : Type 0} → (ℕ → Result (List A) ElfError) → ℕ → Result (List A) ElfError
in_turn step zero = Ok []
in_turn step (suc n) = do
  before ← in_turn step n
  behind before (step n)

-- the steps are refused so, unless memory ran out
abbrev pub Refuses : {Y : Type 0} → ElfError → Result Y ElfError → Type 0
Refuses OutOfMemory steps = Unit {0}
Refuses refusal steps = steps ≡ Err refusal

-- what a function returned, seen by view, is what the steps give, unless memory ran out
abbrev pub GivesBy : {X Y : Type 0} → (X → Y) → Result X ElfError → Result Y ElfError → Type 0
GivesBy view (Ok x) steps = steps ≡ Ok (view x)
GivesBy view (Err e) steps = Refuses e steps
