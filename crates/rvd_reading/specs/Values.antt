-- A cell at the front of a text. A text has a slot, a kind or a type by its number; it is passed over, since the key has it.
use Rattle.std.specs.Prelude.{◌≡◌, ℕ, ◌^◌, ◌<◌, ◌≤◌, true, List, [], ◌∷◌, length, Option, Some, None, codes}
use Rattle.std.specs.List.{All}
use Rattle.rvd_fact.specs.declared.cells.Cell.{Cell}
use Rattle.rvd_fact.specs.declared.values.Value.{Value}
use Rattle.rvd_fact.specs.declared.values.Value.TheVariants.{Block, Mark, Func, Body, Symbol, Comment, Bookmark, Code, Plain, Ref, Gone}
use Rattle.rvd_fact.specs.Ranges.{is_range_set}
use Rattle.rvd_reading.specs.Steps.{◌>>=◌, Step, behind}
use Rattle.rvd_reading.specs.Fixed.{choose, classes, fixed, just, kinds, nothing, sources}
use Rattle.rvd_reading.specs.Numbers.{hex8_of, number_of}
use Rattle.rvd_reading.specs.Quotes.{quoted_of}
use Rattle.rvd_reading.specs.Facts.{FitsForm, bookmark_type_of, comment_kind_of, form_of, perm_of}
use Rattle.rvd_reading.specs.Lists.{ranges_of}

-- the bytes of a block, of which the text tells only whether there are any
abbrev pub init_of : List ℕ → Step (Option (List ℕ))
init_of bytes = choose ((codes "none", just None) ∷ (codes "init", just (Some [])) ∷ []) nothing bytes

unfoldable pub block_of : List ℕ → Step Value
block_of bytes = do
  len ← hex8_of bytes
  gap ← behind (codes " ") len.1
  perm ← perm_of gap.1
  second ← behind (codes " ") perm.1
  init ← init_of second.1
  Some (Block len.0 perm.0 init.0, init.1)

-- a text behind a part and a space
abbrev pub text_behind : {A : Type 0} → (List ℕ → Step A) → List ℕ → Step (List ℕ)
text_behind part bytes = part bytes >>= (λ x. behind (codes " ") x.1 >>= (λ gap. quoted_of gap.1))

unfoldable pub symbol_of : List ℕ → Step Value
symbol_of bytes = text_behind (number_of 255) bytes >>= (λ t. Some (Symbol t.0, t.1))

unfoldable pub comment_of : List ℕ → Step Value
comment_of bytes = text_behind comment_kind_of bytes >>= (λ t. Some (Comment t.0, t.1))

unfoldable pub bookmark_of : List ℕ → Step Value
bookmark_of bytes = text_behind bookmark_type_of bytes >>= (λ t. Some (Bookmark t.0, t.1))

abbrev pub body_of : List ℕ → Step Value
body_of bytes = ranges_of bytes >>= (λ rs. Some (Body rs.0, rs.1))

abbrev pub code_of : List ℕ → Step Value
code_of bytes = hex8_of bytes >>= (λ n. Some (Code n.0, n.1))

abbrev pub plain_of : List ℕ → Step Value
plain_of bytes = form_of bytes >>= (λ f. Some (Plain f.0, f.1))

unfoldable pub ref_of : List ℕ → Step Value
ref_of bytes = do
  slot ← number_of 255 bytes
  gap ← behind (codes " ") slot.1
  class ← fixed classes gap.1
  second ← behind (codes " ") class.1
  to ← hex8_of second.1
  Some (Ref to.0 class.0, to.1)

unfoldable pub gone_of : List ℕ → Step Value
gone_of bytes = do
  kind ← fixed kinds bytes
  gap ← behind (codes " ") kind.1
  sub ← number_of 255 gap.1
  Some (Gone, sub.1)

abbrev pub values : List (List ℕ × (List ℕ → Step Value))
values =
    (codes "block ", block_of)
    ∷ (codes "mark", just Mark)
    ∷ (codes "func", just Func)
    ∷ (codes "body ", body_of)
    ∷ (codes "symbol ", symbol_of)
    ∷ (codes "comment ", comment_of)
    ∷ (codes "bookmark ", bookmark_of)
    ∷ (codes "code ", code_of)
    ∷ (codes "data ", plain_of)
    ∷ (codes "ref ", ref_of)
    ∷ (codes "gone ", gone_of)
    ∷ []

unfoldable pub value_of : List ℕ → Step Value
value_of bytes = choose values nothing bytes

-- the cell: the word of its source and its fact
unfoldable pub cell_of : List ℕ → Step Cell
cell_of bytes = do
  source ← fixed sources bytes
  gap ← behind (codes " ") source.1
  value ← value_of gap.1
  Some (record { source = source.0; value = value.0 }, value.1)

-- the parts of a value are in their ranges
abbrev pub FitsValue : Value → Type 0
FitsValue (Block len perm bytes) = len < 2 ^ 32
FitsValue (Body ranges) = is_range_set ranges ≡ true
FitsValue (Symbol name) = All (λ b. b < 256) name × (length name ≤ 1000)
FitsValue (Comment text) = All (λ b. b < 256) text × (length text ≤ 1000)
FitsValue (Bookmark text) = All (λ b. b < 256) text × (length text ≤ 1000)
FitsValue (Code word) = word < 2 ^ 32
FitsValue (Plain form) = FitsForm form
FitsValue (Ref to class) = to < 2 ^ 32
FitsValue v = Unit {0}

-- what the text of a value tells of it: all but the bytes of a block
abbrev pub bare : Value → Value
bare (Block len perm (Some bytes)) = Block len perm (Some [])
bare v = v
