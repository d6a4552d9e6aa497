-- The names of addresses, as a listing shows them: the primary name is the present symbol of the highest
-- source, the lowest slot among these; where there is none, a default name may be made of the address.
use Rattle.std.specs.Prelude.{◌≡◌, ℕ, zero, suc, ◌<◌, ◌≤◌, Bool, true, false, ◌&&◌, ◌||◌, nat_lt, List, ◌++◌, codes, if◌then◌else◌, Option, Some, None, IfSome, IfNone}
use Rattle.std.specs.Option.{option_or, option_map, option_and_then}
use Rattle.rvd_text.specs.Hex.{hex8}
use Rattle.rvd_text.specs.Quoted.{quoted}
use Rattle.rvd_fact.specs.declared.keys.Key.{Key}
use Rattle.rvd_fact.specs.declared.keys.Kind.TheVariants as kind
use Rattle.rvd_fact.specs.declared.cells.Cell.{Cell}
use Rattle.rvd_fact.specs.declared.values.Source.{Source}
use Rattle.rvd_fact.specs.declared.values.Source.TheVariants.{Default, Analysis, Imported, UserDefined}
use Rattle.rvd_fact.specs.declared.values.RefClass.TheVariants.{Call, Jump, Cond, Datum, Read, Write}
use Rattle.rvd_fact.specs.declared.values.Value.{Value}
use Rattle.rvd_fact.specs.declared.values.Value.TheVariants.{Symbol, Plain}
use Rattle.rvd_fact.specs.Program.{Program, cell_at, is_present}
use Rattle.rvd_fact.specs.Memory.{func_key, unit_key, has_ref_to}

-- how many slots for symbols an address has
abbrev pub slots : ℕ
slots = 64

abbrev pub symbol_key : ℕ → ℕ → Key
symbol_key a slot = record { at = a; kind = kind.Symbol; sub = slot }

-- the place of a source in their priority
abbrev pub priority : Source → ℕ
priority Default = 0
priority Analysis = 1
priority Imported = 2
priority UserDefined = 3

-- the name that a value gives, and whether it gives one
abbrev pub name_of : Value → Option (List ℕ)
name_of (Symbol name) = Some name
name_of v = None

abbrev pub is_symbol : Value → Bool
is_symbol (Symbol name) = true
is_symbol v = false

-- the better of two cells as a symbol: a symbol of a higher source is better than one at a lower slot
abbrev pub better : Option Cell → Option Cell → Option Cell
better best None = best
better None (Some c) = if is_symbol c.value then Some c else None
better (Some b) (Some c) = if is_symbol c.value && nat_lt (priority b.source) (priority c.source) then Some c else Some b

-- the best symbol at the slots below one
unfoldable pub best_below : Program → ℕ → ℕ → Option Cell
best_below S a zero = None
best_below S a (suc slot) = better (best_below S a slot) (cell_at S (symbol_key a slot))

-- the primary name
abbrev pub primary : Program → ℕ → Option (List ℕ)
primary S a = option_and_then (λ (c : Cell). name_of c.value) (best_below S a slots)

-- what it means that a name is the primary one: it is that of a symbol at some slot, and no symbol at the
-- address has a higher source, or the same one at a lower slot
pub record IsPrimary (S : Program) (a : ℕ) (name : List ℕ) : Type 0 where
  pub slot : ℕ
  pub source : Source
  pub within : slot < slots
  pub here : cell_at S (symbol_key a slot) ≡ Some (record { value = Symbol name; source = source })
  pub highest : (t : ℕ) (n : List ℕ) (s : Source) → t < slots → cell_at S (symbol_key a t) ≡ Some (record { value = Symbol n; source = s }) → priority s ≤ priority source
  pub lowest : (t : ℕ) (n : List ℕ) → t < slots → cell_at S (symbol_key a t) ≡ Some (record { value = Symbol n; source = source }) → slot ≤ t

-- an address has no symbol
abbrev pub HasNoSymbol : Program → ℕ → Type 0
HasNoSymbol S a = (t : ℕ) (n : List ℕ) (s : Source) → t < slots → cell_at S (symbol_key a t) ≡ Some (record { value = Symbol n; source = s }) → ⊥

-- the function names what the words mean
pub record PrimaryLaw : Type 0 where
  pub some : (S : Program) (a : ℕ) → IfSome (primary S a) (IsPrimary S a)
  pub none : (S : Program) (a : ℕ) → IfNone (primary S a) (HasNoSymbol S a)

-- whether a reference of control flow, or one to data, goes to an address
abbrev pub is_reached : Program → ℕ → Bool
is_reached S a = has_ref_to S a Call || (has_ref_to S a Jump || has_ref_to S a Cond)

abbrev pub is_referred : Program → ℕ → Bool
is_referred S a = has_ref_to S a Datum || (has_ref_to S a Read || has_ref_to S a Write)

-- whether a value is a data unit, and whether one begins at an address
abbrev pub is_datum : Value → Bool
is_datum (Plain form) = true
is_datum v = false

abbrev pub is_datum_cell : Option Cell → Bool
is_datum_cell None = false
is_datum_cell (Some c) = is_datum c.value

abbrev pub has_datum : Program → ℕ → Bool
has_datum S a = is_datum_cell (cell_at S (unit_key a))

-- what a default name begins with: a function, else an address that control flow goes to, else data
abbrev pub default_prefix : Program → ℕ → Option (List ℕ)
default_prefix S a =
    if is_present (cell_at S (func_key a)) then Some (codes "FUN_")
    else (if is_reached S a then Some (codes "LAB_")
    else (if has_datum S a || is_referred S a then Some (codes "DAT_") else None))

-- the default name, whether or not a symbol is present
abbrev pub default_name : Program → ℕ → Option (List ℕ)
default_name S a = option_map (λ (prefix : List ℕ). prefix ++ hex8 a) (default_prefix S a)

-- the name that a listing shows: the primary name quoted, else the default name
unfoldable pub shown_name : Program → ℕ → Option (List ℕ)
shown_name S a = option_or (option_map quoted (primary S a)) (default_name S a)
