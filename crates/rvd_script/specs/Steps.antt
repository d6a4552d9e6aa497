-- Readers of the words of a line, one part after the other. Each gives its part and the words behind it, or the cause for
-- which the line is refused, so that the first bad part from the left decides. Use `do` blocks over `◌>>=◌`, `part` for a
-- part of one word, and `Reads` for what a function reads from words that it is lent.
use Rattle.std.specs.Prelude.{◌≡◌, ℕ, List, [], ◌∷◌, Option, Some, None, Result, Ok, Err}
use Rattle.rvd_fact.specs.declared.causes.TextCause.{TextCause}
use Rattle.rvd_fact.specs.declared.causes.TextCause.TheVariants.{MissingPart, ExtraPart}
use Rattle.rvd_script.specs.declared.errors.PartError.{PartError}
use Rattle.rvd_script.specs.declared.errors.PartError.TheVariants.{Cause, OutOfMemory}

infixl 10 ◌>>=◌
abbrev pub ◌>>=◌ : {A B E : Type 0} → Result A E → (A → Result B E) → Result B E
(Ok x) >>= f = f x
(Err e) >>= f = Err e

-- what is there, or else the cause
abbrev pub given : {A : Type 0} → TextCause → Option A → Result A TextCause
given cause None = Err cause
given cause (Some x) = Ok x

-- what a part and the words behind it are, or else the cause
abbrev pub Step : Type 0 → Type 0
Step A = Result (A × List (List ℕ)) TextCause

-- the next word
abbrev pub word : List (List ℕ) → Step (List ℕ)
word [] = Err MissingPart
word (w ∷ words) = Ok (w, words)

-- a part of one word; MissingPart where there is none
abbrev pub part : {A : Type 0} → (List ℕ → Result A TextCause) → List (List ℕ) → Step A
part read [] = Err MissingPart
part read (w ∷ words) = read w >>= (λ x. Ok (x, words))

-- what was read, where no words are left
abbrev pub finished : {A : Type 0} → A → List (List ℕ) → Result A TextCause
finished x [] = Ok x
finished x (w ∷ words) = Err ExtraPart

-- what was read, with the words that are left
abbrev pub with_rest : {A : Type 0} → List (List ℕ) → Result A TextCause → Step A
with_rest rest (Ok x) = Ok (x, rest)
with_rest rest (Err cause) = Err cause

-- the same where memory may run out
abbrev pub Reads : {A : Type 0} → List (List ℕ) → Result A PartError → Step A → Type 0
Reads rest (Ok x) step = step ≡ Ok (x, rest)
Reads rest (Err (Cause cause)) step = step ≡ Err cause
Reads rest (Err OutOfMemory) step = Unit {0}

-- a whole line is read so, unless memory runs out
abbrev pub Tells : {A : Type 0} → Result A PartError → Result A TextCause → Type 0
Tells (Ok x) whole = whole ≡ Ok x
Tells (Err (Cause cause)) whole = whole ≡ Err cause
Tells (Err OutOfMemory) whole = Unit {0}

-- what a value that is written through a reference is afterwards, unless memory runs out
abbrev pub Leaves : {A : Type 0} → A → Result (Unit {0}) PartError → Result A TextCause → Type 0
Leaves new (Ok u) whole = whole ≡ Ok new
Leaves new (Err (Cause cause)) whole = whole ≡ Err cause
Leaves new (Err OutOfMemory) whole = Unit {0}
