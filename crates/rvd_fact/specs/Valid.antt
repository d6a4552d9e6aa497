-- Which programs are valid, and which changes fit one. Use `IsValid` as the promise that a program keeps,
-- `suits` for what a single cell owes, and `Fits` for changes that may be applied in turn.
use Rattle.std.specs.Prelude.{◌≡◌, ℕ, ◌+◌, ◌<◌, ◌≤◌, Bool, true, false, ◌&&◌, not, nat_lt, nat_le, ◌==◌, List, [], ◌∷◌, length, Option, Some, None}
use Rattle.std.specs.List.{list_all}
use Rattle.rvd_fact.specs.declared.keys.Kind.{Kind}
use Rattle.rvd_fact.specs.declared.keys.Kind.TheVariants as kind
use Rattle.rvd_fact.specs.declared.keys.Key.{Key}
use Rattle.rvd_fact.specs.declared.cells.Cell.{Cell}
use Rattle.rvd_fact.specs.declared.cells.Change.{Change}
use Rattle.rvd_fact.specs.declared.values.Source.{Source}
use Rattle.rvd_fact.specs.declared.values.Source.TheVariants.{Default, UserDefined}
use Rattle.rvd_fact.specs.declared.values.Form.TheVariants.{Str}
use Rattle.rvd_fact.specs.declared.values.Value.{Value}
use Rattle.rvd_fact.specs.declared.values.Value.TheVariants.{Block, Mark, Func, Body, Symbol, Comment, Bookmark, Code, Plain, Ref, Gone}
use Rattle.rvd_fact.specs.Order.{rank}
use Rattle.rvd_fact.specs.Ranges.{is_range_set}
use Rattle.rvd_fact.specs.Program.{Program, cell_at, applied, reverted, reverted_all, IsInOrder}
use Rattle.rvd_fact.specs.Memory.{unit_key, block_key, unit_len, block_len, word}

-- the kind that a value is of; Gone is of each kind but a block
abbrev pub is_of : Kind → Value → Bool
is_of k (Block len perm bytes) = rank k == rank kind.Block
is_of k Mark = rank k == rank kind.Mark
is_of k Func = rank k == rank kind.Func
is_of k (Body s) = rank k == rank kind.Body
is_of k (Symbol t) = rank k == rank kind.Symbol
is_of k (Comment t) = rank k == rank kind.Comment
is_of k (Bookmark t) = rank k == rank kind.Bookmark
is_of k (Code w) = rank k == rank kind.Unit
is_of k (Plain f) = rank k == rank kind.Unit
is_of k (Ref to class) = rank k == rank kind.Ref
is_of k Gone = not (rank k == rank kind.Block)

-- the greatest sub of a kind
abbrev pub top_sub : Kind → ℕ
top_sub kind.Symbol = 63
top_sub kind.Comment = 4
top_sub kind.Bookmark = 4
top_sub kind.Ref = 63
top_sub k = 0

-- whether a number is an address, and whether a list has bytes alone
abbrev pub is_address : ℕ → Bool
is_address a = nat_lt a 4294967296

abbrev pub are_bytes : List ℕ → Bool
are_bytes list = list_all (λ b. nat_lt b 256) list

-- a name or a text has at most 1,000 bytes
abbrev pub is_text : List ℕ → Bool
is_text text = nat_le (length text) 1000 && are_bytes text

-- a block has as many bytes as its length where it is initialised
abbrev pub has_bytes : ℕ → Option (List ℕ) → Bool
has_bytes len None = true
has_bytes len (Some bytes) = (length bytes == len) && are_bytes bytes

-- whether a value's own parts are in range at an address: a block has at least one byte and ends by
-- 2 ^ 32, and a string has 1 to 256 bytes
abbrev pub is_whole : ℕ → Value → Bool
is_whole a (Block len perm bytes) = nat_lt 0 len && (nat_le (a + len) 4294967296 && has_bytes len bytes)
is_whole a (Body ranges) = is_range_set ranges
is_whole a (Symbol name) = is_text name
is_whole a (Comment text) = is_text text
is_whole a (Bookmark text) = is_text text
is_whole a (Plain (Str n)) = nat_le 1 n && nat_le n 256
is_whole a (Ref to class) = is_address to
is_whole a v = true

-- whether a source may stand at a value: never Default, and at Gone that of an analyst
abbrev pub may_stand : Source → Value → Bool
may_stand Default v = false
may_stand UserDefined v = true
may_stand s Gone = false
may_stand s v = true

-- whether a cell may stand at a key
abbrev pub suits : Key → Cell → Bool
suits k c = is_of k.kind c.value && (is_address k.at && (nat_le k.sub (top_sub k.kind) && (is_whole k.at c.value && may_stand c.source c.value)))

-- how many bytes the present unit or the block at an address takes, and 0 where there is none
abbrev pub span : (Value → ℕ) → Option Cell → ℕ
span len None = 0
span len (Some c) = len c.value

abbrev pub unit_span : Program → ℕ → ℕ
unit_span S a = span unit_len (cell_at S (unit_key a))

abbrev pub block_span : Program → ℕ → ℕ
block_span S a = span block_len (cell_at S (block_key a))

-- spans that aren't empty don't meet
abbrev pub AreApart : (ℕ → ℕ) → Type 0
AreApart at = (a b : ℕ) → a < b → 0 < at a → 0 < at b → a + at a ≤ b

-- each key comes once, each cell suits its key, blocks are disjoint, present units are disjoint and each
-- lies in one block, and an instruction's word is that of its four initialised bytes, the lowest first
pub record IsValid (S : Program) : Type 0 where
  pub in_order : IsInOrder S
  pub cells : (k : Key) (c : Cell) → cell_at S k ≡ Some c → suits k c ≡ true
  pub blocks_apart : AreApart (block_span S)
  pub units_apart : AreApart (unit_span S)
  pub in_a_block : (a : ℕ) → 0 < unit_span S a → (b : ℕ) × (b ≤ a) × (a + unit_span S a ≤ b + block_span S b)
  pub words : (a w : ℕ) (s : Source) → cell_at S (unit_key a) ≡ Some (record { value = Code w; source = s }) → word S a ≡ Some w

-- each change finds what it says at its turn, and leaves a valid program
abbrev pub Fits : Program → List Change → Type 0
Fits S [] = Unit {0}
Fits S (c ∷ cs) = (cell_at S c.key ≡ c.before) × IsValid (applied S c) × Fits (applied S c) cs

-- each program on the way back through changes is valid
abbrev pub Reverts : Program → List Change → Type 0
Reverts S [] = Unit {0}
Reverts S (c ∷ cs) = Reverts S cs × IsValid (reverted (reverted_all S cs) c)
