-- What a walk over the entries of a program picks from an entry: the address at which it makes an item, if it makes one. Use
-- `candidate_place` for candidates, `from_of` and `from_near` for the places of references, `body_place` for functions by
-- their bodies, and `data_near` for data.
use Rattle.std.specs.Prelude.{ℕ, ◌+◌, Bool, true, false, ◌&&◌, not, nat_lt, nat_le, List, Option, Some, None, if◌then◌else◌}
use Rattle.std.specs.List.{list_any}
use Rattle.rvd_fact.specs.declared.keys.Kind.{Kind}
use Rattle.rvd_fact.specs.declared.keys.Kind.TheVariants as kind
use Rattle.rvd_fact.specs.declared.keys.Key.{Key}
use Rattle.rvd_fact.specs.declared.cells.Cell.{Cell}
use Rattle.rvd_fact.specs.declared.values.RefClass.TheVariants.{Call, Datum, Read}
use Rattle.rvd_fact.specs.declared.values.Value.{Value}
use Rattle.rvd_fact.specs.declared.values.Value.TheVariants.{Body as BodyOf, Ref}
use Rattle.rvd_fact.specs.Program.{is_gone}
use Rattle.rvd_fact.specs.Ranges.{in_range}
use Rattle.rvd_ask.specs.declared.asks.Analyzer.{Analyzer}
use Rattle.rvd_ask.specs.declared.asks.Analyzer.TheVariants.{Flow, Refs, Funcs, Body, Strings}
use Rattle.rvd_ask.specs.Wake.{goes_to, meets}

-- the kinds of facts at which flow starts, and those of units and functions
abbrev pub starts_flow : Kind → Bool
starts_flow kind.Mark = true
starts_flow kind.Func = true
starts_flow kind.Unit = true
starts_flow k = false

abbrev pub is_unit : Kind → Bool
is_unit kind.Unit = true
is_unit k = false

abbrev pub is_func : Kind → Bool
is_func kind.Func = true
is_func k = false

-- the address of an entry where a test says yes, and where it is present and of a kind
abbrev pub at_if : Bool → Key → Option ℕ
at_if picked k = if picked then Some k.at else None

abbrev pub present_at : Bool → Key → Value → Option ℕ
present_at of_kind k v = at_if (of_kind && not (is_gone v)) k

-- the target of a call, and of a reference to data
abbrev pub called : Value → Option ℕ
called (Ref to Call) = Some to
called v = None

abbrev pub data_at : Value → Option ℕ
data_at (Ref to Datum) = Some to
data_at (Ref to Read) = Some to
data_at v = None

-- where an entry makes an item of an analyzer a candidate
abbrev pub candidate_place : Analyzer → Key → Value → Option ℕ
candidate_place Flow k v = present_at (starts_flow k.kind) k v
candidate_place Refs k v = present_at (is_unit k.kind) k v
candidate_place Funcs k v = called v
candidate_place Body k v = present_at (is_func k.kind) k v
candidate_place Strings k v = data_at v

abbrev pub is_body : Kind → Bool
is_body kind.Body = true
is_body k = false

-- the place of a reference to t
abbrev pub from_of : ℕ → Key → Value → Option ℕ
from_of t k v = at_if (goes_to t v) k

-- the place of a reference to a word that meets the n bytes from z on
abbrev pub goes_near : ℕ → ℕ → Value → Bool
goes_near z n (Ref to class) = meets z n to
goes_near z n v = false

abbrev pub from_near : ℕ → ℕ → Key → Value → Option ℕ
from_near z n k v = at_if (goes_near z n v) k

-- the place of a body that has one of some addresses
abbrev pub meets_any : List ℕ → List (ℕ × ℕ) → Bool
meets_any addresses ranges = list_any (λ r. list_any (λ a. in_range a r) addresses) ranges

abbrev pub body_meets : List ℕ → Value → Bool
body_meets addresses (BodyOf ranges) = meets_any addresses ranges
body_meets addresses v = false

abbrev pub body_place : List ℕ → Key → Value → Option ℕ
body_place addresses k v = at_if (is_body k.kind && body_meets addresses v) k

-- the target of a reference to data, where a string there may have one of the n bytes from z on
abbrev pub is_close : ℕ → ℕ → ℕ → Bool
is_close z n t = nat_le z (t + 255) && nat_lt t (z + n)

abbrev pub if_close : ℕ → ℕ → Option ℕ → Option ℕ
if_close z n None = None
if_close z n (Some t) = if is_close z n t then Some t else None

abbrev pub data_near : ℕ → ℕ → Value → Option ℕ
data_near z n v = if_close z n (data_at v)

-- the target of a reference
abbrev pub target_of : Value → Option ℕ
target_of (Ref to class) = Some to
target_of v = None

abbrev pub cell_target : Option Cell → Option ℕ
cell_target None = None
cell_target (Some c) = target_of c.value
