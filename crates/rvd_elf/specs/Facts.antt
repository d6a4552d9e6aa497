-- The facts of an import as a program: its blocks, the entry point, and the names and functions of its symbols.
-- Use `with_facts` for the program of a list of facts, and `changes_of` for its facts in key order as changes.
use Rattle.std.specs.Prelude.{◌≡◌, ℕ, ◌+◌, ◌%◌, Bool, ◌&&◌, ◌==◌, nat_lt, nat_le, if◌then◌else◌, List, [], ◌∷◌, ◌++◌, map, take, drop, count_by, unwrap_or, Option, Some, None}
use Rattle.std.specs.Option.{option_map}
use Rattle.std.specs.List.{list_any}
use Rattle.std.specs.Ordering.{nat_cmp}
use Rattle.std.specs.BTreeMap.{BTreeMap, get}
use Rattle.rvd_fact.specs.declared.keys.Key.{Key}
use Rattle.rvd_fact.specs.declared.keys.Kind.TheVariants as kind
use Rattle.rvd_fact.specs.declared.cells.Cell.{Cell}
use Rattle.rvd_fact.specs.declared.cells.Change.{Change}
use Rattle.rvd_fact.specs.declared.values.Value.{Value}
use Rattle.rvd_fact.specs.declared.values.Value.TheVariants.{Block, Mark, Func, Symbol as SymbolValue}
use Rattle.rvd_fact.specs.declared.values.Source.TheVariants.{Imported}
use Rattle.rvd_fact.specs.Program.{Program, placed}
use Rattle.rvd_fact.specs.Memory.{key_of, block_key, func_key}
use Rattle.rvd_elf.specs.declared.header.Header.{Header}
use Rattle.rvd_elf.specs.declared.segment.Region.{Region}
use Rattle.rvd_elf.specs.declared.symbol.Symbol.{Symbol}

-- a fact of the imported file
abbrev pub imported : Value → Cell
imported v = record { value = v; source = Imported }

-- the program with these facts too
abbrev pub with_facts : Program → List (Key × Cell) → Program
with_facts S [] = S
with_facts S (f ∷ fs) = with_facts (placed S f.0 (Some f.1)) fs

-- the facts of a program in key order, as changes with nothing before
abbrev pub changes_of : Program → List Change
changes_of S = map (λ (f : Key × Cell). record { key = f.0; before = None; after = Some f.1 }) S

-- the bytes of an initialised region
abbrev pub bytes_of : List ℕ → Region → Option (List ℕ)
bytes_of b r = option_map (λ o. take r.len (drop o b)) r.offset

-- the block of a region
abbrev pub block_fact : List ℕ → Region → Key × Cell
block_fact b r = (block_key r.start, imported (Block r.len r.perm (bytes_of b r)))

-- an address lies in a block
abbrev pub in_block : List Region → ℕ → Bool
in_block rs a = list_any (λ (r : Region). nat_le r.start a && nat_lt a (r.start + r.len)) rs

-- an instruction may begin at an address: it is a multiple of 4 in a block
abbrev pub may_begin : List Region → ℕ → Bool
may_begin rs a = (a % 4 == 0) && in_block rs a

-- the entry point
abbrev pub mark_facts : List Region → Header → List (Key × Cell)
mark_facts rs h = if may_begin rs h.e_entry then (key_of kind.Mark h.e_entry, imported Mark) ∷ [] else []

-- how many of these symbols stand at an address
abbrev pub number_at : ℕ → List Symbol → ℕ
number_at a ss = count_by (λ (s : Symbol). s.value == a) ss

-- the bytes of a symbol's name
abbrev pub name_bytes : List ℕ → Symbol → List ℕ
name_bytes b s = take s.name_len (drop s.name_at b)

-- the name of a symbol in a slot of its address
abbrev pub name_fact : List ℕ → ℕ → Symbol → Key × Cell
name_fact b slot s = (record { at = s.value; kind = kind.Symbol; sub = slot }, imported (SymbolValue (name_bytes b s)))

-- the function of a symbol
abbrev pub func_facts : List Region → Symbol → List (Key × Cell)
func_facts rs s = if s.is_function && may_begin rs s.value then (func_key s.value, imported Func) ∷ [] else []

-- the facts of a symbol with a slot; an address has the slots 0 to 63
abbrev pub slot_facts : List ℕ → List Region → ℕ → Symbol → List (Key × Cell)
slot_facts b rs slot s = if nat_lt slot 64 then name_fact b slot s ∷ func_facts rs s else []

-- the facts of symbols behind others: each has the slot that follows those of its address before it, so that
-- the first 64 symbols of an address are kept
abbrev pub symbol_facts : List ℕ → List Region → List Symbol → List Symbol → List (Key × Cell)
symbol_facts b rs before [] = []
symbol_facts b rs before (s ∷ ss) = slot_facts b rs (number_at s.value before) s ++ symbol_facts b rs (before ++ s ∷ []) ss

-- all facts of a file
abbrev pub facts_of : List ℕ → Header → List Region → List Symbol → List (Key × Cell)
facts_of b h rs ss = map (block_fact b) rs ++ (mark_facts rs h ++ symbol_facts b rs [] ss)

-- the slot that follows those that are taken at an address
abbrev pub slot_at : BTreeMap ℕ ℕ → ℕ → ℕ
slot_at slots a = unwrap_or (get nat_cmp slots a) 0

-- one slot more is taken at an address, if one was left
abbrev pub TakesSlot : BTreeMap ℕ ℕ → BTreeMap ℕ ℕ → ℕ → Type 0
TakesSlot old new at = (a : ℕ) → slot_at new a ≡ (if a == at && nat_lt (slot_at old at) 64 then slot_at old at + 1 else slot_at old a)
