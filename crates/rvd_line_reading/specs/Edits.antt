-- An edit at the front of a text: `edit_of`, and what it takes for the parts of one to be in the ranges of their types:
-- `FitsEdit`. These are wider than those of a legal edit.
use Rattle.std.specs.Prelude.{◌≡◌, ℕ, zero, suc, ◌^◌, ◌<◌, ◌≤◌, true, nat_eq, List, [], ◌∷◌, length, Some, if◌then◌else◌, codes}
use Rattle.std.specs.List.{All, starts_with}
use Rattle.rvd_fact.specs.Ranges.{is_range_set}
use Rattle.rvd_event.specs.declared.edits.Edit.{Edit}
use Rattle.rvd_event.specs.declared.edits.Edit.TheVariants.{Block, Mark, Func, Body, Label, Ref, Comment, Bookmark, Code, Datum, Clear, Remove, Release}
use Rattle.rvd_reading.specs.Steps.{◌>>=◌, Step, behind}
use Rattle.rvd_reading.specs.Fixed.{choose, classes, fixed, nothing}
use Rattle.rvd_reading.specs.Numbers.{hex8_of}
use Rattle.rvd_reading.specs.Quotes.{quoted_of}
use Rattle.rvd_reading.specs.Facts.{FitsForm, bookmark_type_of, comment_kind_of, form_of, perm_of}
use Rattle.rvd_reading.specs.Lists.{range_of, set_of}
use Rattle.rvd_journal_reading.specs.Asks.{at_of}
use Rattle.rvd_journal_reading.specs.Refusals.{keyed}

unfoldable pub block_of : List ℕ → Step Edit
block_of bytes = do
  at ← hex8_of bytes
  gap ← behind (codes " ") at.1
  len ← hex8_of gap.1
  second ← behind (codes " ") len.1
  perm ← perm_of second.1
  Some (Block at.0 len.0 perm.0, perm.1)

-- a range with a space before it
unfoldable pub next_range_of : List ℕ → Step (ℕ × ℕ)
next_range_of bytes = behind (codes " ") bytes >>= (λ gap. range_of gap.1)

-- at most n ranges, each with a space before it, up to the space and the sign behind an event
abbrev pub ranges_to : ℕ → List ℕ → Step (List (ℕ × ℕ))
ranges_to zero bytes = Some ([], bytes)
ranges_to (suc n) bytes = if starts_with nat_eq bytes (codes " =") then Some ([], bytes) else next_range_of bytes >>= (λ x. ranges_to n x.1 >>= (λ xs. Some (x.0 ∷ xs.0, xs.1)))

unfoldable pub range_words_of : List ℕ → Step (List (ℕ × ℕ))
range_words_of bytes = ranges_to (length bytes) bytes

-- a set of addresses: its ranges, each with a space before it
unfoldable pub range_set_of : List ℕ → Step (List (ℕ × ℕ))
range_set_of bytes = range_words_of bytes >>= set_of

unfoldable pub body_of : List ℕ → Step Edit
body_of bytes = do
  at ← hex8_of bytes
  set ← range_set_of at.1
  Some (Body at.0 set.0, set.1)

unfoldable pub label_of : List ℕ → Step Edit
label_of bytes = do
  at ← hex8_of bytes
  gap ← behind (codes " ") at.1
  name ← quoted_of gap.1
  Some (Label at.0 name.0, name.1)

unfoldable pub ref_of : List ℕ → Step Edit
ref_of bytes = do
  from ← hex8_of bytes
  gap ← behind (codes " ") from.1
  to ← hex8_of gap.1
  second ← behind (codes " ") to.1
  class ← fixed classes second.1
  Some (Ref from.0 to.0 class.0, class.1)

unfoldable pub comment_of : List ℕ → Step Edit
comment_of bytes = do
  at ← hex8_of bytes
  gap ← behind (codes " ") at.1
  kind ← comment_kind_of gap.1
  second ← behind (codes " ") kind.1
  text ← quoted_of second.1
  Some (Comment at.0 kind.0 text.0, text.1)

unfoldable pub bookmark_of : List ℕ → Step Edit
bookmark_of bytes = do
  at ← hex8_of bytes
  gap ← behind (codes " ") at.1
  kind ← bookmark_type_of gap.1
  second ← behind (codes " ") kind.1
  text ← quoted_of second.1
  Some (Bookmark at.0 kind.0 text.0, text.1)

unfoldable pub datum_of : List ℕ → Step Edit
datum_of bytes = do
  at ← hex8_of bytes
  gap ← behind (codes " ") at.1
  form ← form_of gap.1
  Some (Datum at.0 form.0, form.1)

abbrev pub edits : List (List ℕ × (List ℕ → Step Edit))
edits =
    (codes "block ", block_of)
    ∷ (codes "mark ", at_of Mark)
    ∷ (codes "func ", at_of Func)
    ∷ (codes "body ", body_of)
    ∷ (codes "label ", label_of)
    ∷ (codes "ref ", ref_of)
    ∷ (codes "comment ", comment_of)
    ∷ (codes "bookmark ", bookmark_of)
    ∷ (codes "code ", at_of Code)
    ∷ (codes "data ", datum_of)
    ∷ (codes "clear ", at_of Clear)
    ∷ (codes "remove ", keyed (λ k. Remove k.kind k.at k.sub))
    ∷ (codes "release ", keyed (λ k. Release k.kind k.at k.sub))
    ∷ []

unfoldable pub edit_of : List ℕ → Step Edit
edit_of bytes = choose edits nothing bytes

-- a text has at most 1,000 bytes
abbrev pub FitsText : List ℕ → Type 0
FitsText text = All (λ b. b < 256) text × (length text ≤ 1000)

-- the parts of an edit are in their ranges
abbrev pub FitsEdit : Edit → Type 0
FitsEdit (Block at len perm) = (at < 2 ^ 32) × (len < 2 ^ 32)
FitsEdit (Mark at) = at < 2 ^ 32
FitsEdit (Func at) = at < 2 ^ 32
FitsEdit (Body at ranges) = (at < 2 ^ 32) × (is_range_set ranges ≡ true)
FitsEdit (Label at name) = (at < 2 ^ 32) × FitsText name
FitsEdit (Ref from to class) = (from < 2 ^ 32) × (to < 2 ^ 32)
FitsEdit (Comment at sub text) = (at < 2 ^ 32) × (sub < 256) × FitsText text
FitsEdit (Bookmark at sub text) = (at < 2 ^ 32) × (sub < 256) × FitsText text
FitsEdit (Code at) = at < 2 ^ 32
FitsEdit (Datum at form) = (at < 2 ^ 32) × FitsForm form
FitsEdit (Clear at) = at < 2 ^ 32
FitsEdit (Remove k at sub) = (at < 2 ^ 32) × (sub < 256)
FitsEdit (Release k at sub) = (at < 2 ^ 32) × (sub < 256)
