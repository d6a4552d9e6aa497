-- Readers of a text, one part after the other. Each gives its part and the bytes behind it, or nothing where the bytes don't
-- begin with such a part. Use `do` blocks over `◌>>=◌`, and `Reads` for what a function reads where memory may run out.
use Rattle.std.specs.Prelude.{◌≡◌, ℕ, nat_eq, List, length, drop, Option, Some, None, Result, Ok, Err, if◌then◌else◌}
use Rattle.std.specs.List.{starts_with}
use Rattle.rvd_reading.specs.declared.errors.Unread.{Unread}
use Rattle.rvd_reading.specs.declared.errors.ReadError.{ReadError}
use Rattle.rvd_reading.specs.declared.errors.ReadError.TheVariants as error

infixl 10 ◌>>=◌
abbrev pub ◌>>=◌ : {A B : Type 0} → Option A → (A → Option B) → Option B
None >>= f = None
(Some x) >>= f = f x

-- a part and the bytes behind it
abbrev pub Step : Type 0 → Type 0
Step A = Option (A × List ℕ)

-- what is left behind a fixed word
abbrev pub behind : List ℕ → List ℕ → Step (Unit {0})
behind word bytes = if starts_with nat_eq bytes word then Some (tt, drop (length word) bytes) else None

-- the bytes without a fixed word in front, where it stands there
abbrev pub without : List ℕ → List ℕ → List ℕ
without word bytes = if starts_with nat_eq bytes word then drop (length word) bytes else bytes

-- what was read, with the bytes that are left
abbrev pub with_rest : {A : Type 0} → List ℕ → Result A Unread → Step A
with_rest rest (Ok x) = Some (x, rest)
with_rest rest (Err e) = None

-- the same where memory may run out
abbrev pub Reads : {A : Type 0} → List ℕ → Result A ReadError → Step A → Type 0
Reads rest (Ok x) step = step ≡ Some (x, rest)
Reads rest (Err error.Unread) step = step ≡ None
Reads rest (Err error.OutOfMemory) step = Unit {0}
