-- Lists at the front of a text, each element with a separator before it, and sets of addresses.
use Rattle.std.specs.Prelude.{◌≡◌, ℕ, zero, suc, nat_eq, List, [], ◌∷◌, ◌++◌, length, drop, Some, None, Result, Ok, Err, if◌then◌else◌, codes}
use Rattle.std.specs.List.{starts_with}
use Rattle.rvd_fact.specs.Ranges.{is_range_set}
use Rattle.rvd_reading.specs.declared.errors.ReadError.{ReadError}
use Rattle.rvd_reading.specs.declared.errors.ReadError.TheVariants as error
use Rattle.rvd_reading.specs.Steps.{◌>>=◌, Step, behind}
use Rattle.rvd_reading.specs.Fixed.{choose, just}
use Rattle.rvd_reading.specs.Numbers.{hex8_of}

-- at most n elements, each with a separator before it
abbrev pub list_of : {A : Type 0} → ℕ → List ℕ → (List ℕ → Step A) → List ℕ → Step (List A)
list_of zero separator read bytes = Some ([], bytes)
list_of (suc n) separator read bytes =
    if starts_with nat_eq bytes separator then read (drop (length separator) bytes) >>= (λ x. list_of n separator read x.1 >>= (λ xs. Some (x.0 ∷ xs.0, xs.1))) else Some ([], bytes)

-- a list that is read on, behind the elements that have been read
abbrev pub appended : {A : Type 0} → List A → Step (List A) → Step (List A)
appended old step = step >>= (λ xs. Some (old ++ xs.0, xs.1))

-- a list was read into another, unless memory runs out
abbrev pub Appends : {A : Type 0} → List A → List A → List ℕ → Result (Unit {0}) ReadError → Step (List A) → Type 0
Appends old new rest (Ok u) step = appended old step ≡ Some (new, rest)
Appends old new rest (Err error.Unread) step = appended old step ≡ None
Appends old new rest (Err error.OutOfMemory) step = Unit {0}

-- a range: its first and its last address with a dash between them
unfoldable pub range_of : List ℕ → Step (ℕ × ℕ)
range_of bytes = do
  first ← hex8_of bytes
  dash ← behind (codes "-") first.1
  last ← hex8_of dash.1
  Some ((first.0, last.0), last.1)

-- ranges, each with a comma before it
unfoldable pub more_ranges_of : List ℕ → Step (List (ℕ × ℕ))
more_ranges_of bytes = list_of (length bytes) (codes ",") range_of bytes

-- ranges with a comma between two of them
abbrev pub some_ranges_of : List ℕ → Step (List (ℕ × ℕ))
some_ranges_of bytes = range_of bytes >>= (λ r. more_ranges_of r.1 >>= (λ rs. Some (r.0 ∷ rs.0, rs.1)))

-- ranges with a comma between two of them, or a dash
abbrev pub range_list_of : List ℕ → Step (List (ℕ × ℕ))
range_list_of bytes = choose ((codes "-", just []) ∷ []) some_ranges_of bytes

-- ranges that are a set of addresses
abbrev pub set_of : List (ℕ × ℕ) × List ℕ → Step (List (ℕ × ℕ))
set_of rs = if is_range_set rs.0 then Some (rs.0, rs.1) else None

-- a set of addresses: its ranges with a comma between two of them, or a dash
unfoldable pub ranges_of : List ℕ → Step (List (ℕ × ℕ))
ranges_of bytes = range_list_of bytes >>= set_of
