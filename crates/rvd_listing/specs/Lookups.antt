-- What look-ups of a whole program find: the next unit, the functions that have an address, and the references to it.
-- Use `next_unit`, `function_of` and `xrefs_to` for them, and `is_fact_of` for the present facts of a kind.
use Rattle.std.specs.Prelude.{◌≡◌, ℕ, ◌<◌, Bool, true, ◌&&◌, not, nat_lt, ◌==◌, List, map, filter, filter_map, find, Option, Some, None, MatchOption, if◌then◌else◌}
use Rattle.std.specs.Option.{option_map}
use Rattle.rvd_fact.specs.declared.keys.Kind.{Kind}
use Rattle.rvd_fact.specs.declared.keys.Kind.TheVariants as kind
use Rattle.rvd_fact.specs.declared.keys.Key.{Key}
use Rattle.rvd_fact.specs.declared.cells.Cell.{Cell}
use Rattle.rvd_fact.specs.declared.values.RefClass.{RefClass}
use Rattle.rvd_fact.specs.declared.values.Value.{Value}
use Rattle.rvd_fact.specs.declared.values.Value.TheVariants.{Ref}
use Rattle.rvd_fact.specs.Order.{rank}
use Rattle.rvd_fact.specs.Program.{Program, cell_at, is_gone, is_present}
use Rattle.rvd_fact.specs.Memory.{unit_key}
use Rattle.rvd_fact.specs.Valid.{IsValid}
use Rattle.rvd_ask.specs.Wake.{body_with}

-- whether an entry is a present fact of a kind
abbrev pub is_fact_of : Kind → Key × Cell → Bool
is_fact_of k e = rank e.0.kind == rank k && not (is_gone e.1.value)

-- whether an entry is a present unit that begins above an address
abbrev pub begins_above : ℕ → Key × Cell → Bool
begins_above a e = nat_lt a e.0.at && is_fact_of kind.Unit e

-- the first present unit that begins above an address
abbrev pub next_unit : Program → ℕ → Option ℕ
next_unit S a = option_map (λ (e : Key × Cell). e.0.at) (find (begins_above a) S)

-- the entries of the functions whose present body has an address, in rising order
abbrev pub function_of : Program → ℕ → List ℕ
function_of S a = map (λ (e : Key × Cell). e.0.at) (filter (λ (e : Key × Cell). body_with a e.1.value) S)

-- a reference to an address as its place, slot and class
abbrev pub xref_of : ℕ → Key → Value → Option (ℕ × ℕ × RefClass)
xref_of t k (Ref to class) = if to == t then Some (k.at, k.sub, class) else None
xref_of t k v = None

-- the present references to an address, by place and slot
abbrev pub xrefs_to : Program → ℕ → List (ℕ × ℕ × RefClass)
xrefs_to S t = filter_map (λ (e : Key × Cell). xref_of t e.0 e.1.value) S

-- a present unit begins at an address
abbrev pub BeginsUnit : Program → ℕ → Type 0
BeginsUnit S a = is_present (cell_at S (unit_key a)) ≡ true

-- a unit is the next one above an address: it begins above, and none begins between
pub record IsNextUnit (S : Program) (a unit : ℕ) : Type 0 where
  pub above : a < unit
  pub present : BeginsUnit S unit
  pub first : (b : ℕ) → a < b → b < unit → BeginsUnit S b → ⊥

-- the function names what the words mean
abbrev pub NextUnitLaw : Type 0
NextUnitLaw = (S : Program) (a : ℕ) → IsValid S → MatchOption (next_unit S a) ((b : ℕ) → a < b → BeginsUnit S b → ⊥) (IsNextUnit S a)
