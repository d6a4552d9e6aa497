-- The lines that edit. Use `edit_of` for the edit that the words behind an edit's first word make.
use Rattle.std.specs.Prelude.{◌≡◌, ℕ, true, List, [], ◌∷◌, Ok, codes}
use Rattle.rvd_fact.specs.declared.values.Form.{Form}
use Rattle.rvd_fact.specs.declared.values.Form.TheVariants as form
use Rattle.rvd_fact.specs.Valid.{top_sub}
use Rattle.rvd_event.specs.Edits.{is_datum}
use Rattle.rvd_event.specs.declared.edits.Edit.{Edit}
use Rattle.rvd_event.specs.declared.edits.Edit.TheVariants as edit
use Rattle.rvd_script.specs.declared.edit_lines.EditWord.{EditWord}
use Rattle.rvd_script.specs.declared.edit_lines.EditWord.TheVariants as first
use Rattle.rvd_script.specs.declared.edit_lines.FormWord.{FormWord}
use Rattle.rvd_script.specs.declared.edit_lines.FormWord.TheVariants.{Plain, Text}
use Rattle.rvd_script.specs.Steps.{◌>>=◌, Step, part}
use Rattle.rvd_script.specs.RangeLines.{ranges_of}
use Rattle.rvd_script.specs.Parts.{address_of, bookmark_types, classes, comment_kinds, fixed, length_of, name_of, number_of, perm_of, quoted_of, releasable_kinds, removable_kinds}

-- the first words of edits
abbrev pub edit_words : List (List ℕ × EditWord)
edit_words =
    (codes "block", first.Block)
    ∷ (codes "mark", first.Mark)
    ∷ (codes "func", first.Func)
    ∷ (codes "body", first.Body)
    ∷ (codes "label", first.Label)
    ∷ (codes "ref", first.Ref)
    ∷ (codes "comment", first.Comment)
    ∷ (codes "bookmark", first.Bookmark)
    ∷ (codes "code", first.Code)
    ∷ (codes "data", first.Data)
    ∷ (codes "clear", first.Clear)
    ∷ (codes "remove", first.Remove)
    ∷ (codes "release", first.Release)
    ∷ []

-- the forms of a data unit; a string's is followed by its length
abbrev pub forms : List (List ℕ × FormWord)
forms =
    (codes "byte", Plain form.Byte)
    ∷ (codes "half", Plain form.Half)
    ∷ (codes "word", Plain form.Word)
    ∷ (codes "string", Text)
    ∷ []

-- the word's form, if it has one, is one of those that an analyst may make
abbrev pub IsFormWord : FormWord → Type 0
IsFormWord (Plain f) = is_datum f ≡ true
IsFormWord Text = Unit {0}

abbrev pub form_behind : FormWord → List (List ℕ) → Step Form
form_behind (Plain f) words = Ok (f, words)
form_behind Text words = part (number_of 1 256) words >>= (λ len. Ok (form.Str len.0, len.1))

unfoldable pub form_of : List (List ℕ) → Step Form
form_of words = do
  word ← part (fixed forms) words
  form_behind word.0 word.1

-- an edit of an address alone: mark, func, code and clear AT
abbrev pub at_of : (ℕ → Edit) → List (List ℕ) → Step Edit
at_of of_address words = part address_of words >>= (λ at. Ok (of_address at.0, at.1))

-- block AT LEN PERM
unfoldable pub block_of : List (List ℕ) → Step Edit
block_of words = do
  at ← part address_of words
  len ← part length_of at.1
  perm ← part perm_of len.1
  Ok (edit.Block at.0 len.0 perm.0, perm.1)

-- body AT RANGES
unfoldable pub body_of : List (List ℕ) → Step Edit
body_of words = do
  at ← part address_of words
  ranges ← ranges_of at.1
  Ok (edit.Body at.0 ranges.0, ranges.1)

-- label AT NAME
unfoldable pub label_of : List (List ℕ) → Step Edit
label_of words = do
  at ← part address_of words
  name ← part name_of at.1
  Ok (edit.Label at.0 name.0, name.1)

-- ref FROM TO CLASS
unfoldable pub ref_of : List (List ℕ) → Step Edit
ref_of words = do
  from ← part address_of words
  to ← part address_of from.1
  class ← part (fixed classes) to.1
  Ok (edit.Ref from.0 to.0 class.0, class.1)

-- comment AT KIND TEXT, and bookmark AT TYPE TEXT
unfoldable pub comment_of : List (List ℕ) → Step Edit
comment_of words = do
  at ← part address_of words
  kind ← part (fixed comment_kinds) at.1
  text ← part quoted_of kind.1
  Ok (edit.Comment at.0 kind.0 text.0, text.1)

unfoldable pub bookmark_of : List (List ℕ) → Step Edit
bookmark_of words = do
  at ← part address_of words
  type ← part (fixed bookmark_types) at.1
  text ← part quoted_of type.1
  Ok (edit.Bookmark at.0 type.0 text.0, text.1)

-- data AT FORM
unfoldable pub datum_of : List (List ℕ) → Step Edit
datum_of words = do
  at ← part address_of words
  form ← form_of at.1
  Ok (edit.Datum at.0 form.0, form.1)

-- remove KIND AT SUB, and release KIND AT SUB; SUB is a number in the range of the kind
unfoldable pub remove_of : List (List ℕ) → Step Edit
remove_of words = do
  kind ← part (fixed removable_kinds) words
  at ← part address_of kind.1
  sub ← part (number_of 0 (top_sub kind.0)) at.1
  Ok (edit.Remove kind.0 at.0 sub.0, sub.1)

unfoldable pub release_of : List (List ℕ) → Step Edit
release_of words = do
  kind ← part (fixed releasable_kinds) words
  at ← part address_of kind.1
  sub ← part (number_of 0 (top_sub kind.0)) at.1
  Ok (edit.Release kind.0 at.0 sub.0, sub.1)

-- the edit of a first word and the words behind it
abbrev pub edit_of : EditWord → List (List ℕ) → Step Edit
edit_of first.Block words = block_of words
edit_of first.Mark words = at_of edit.Mark words
edit_of first.Func words = at_of edit.Func words
edit_of first.Body words = body_of words
edit_of first.Label words = label_of words
edit_of first.Ref words = ref_of words
edit_of first.Comment words = comment_of words
edit_of first.Bookmark words = bookmark_of words
edit_of first.Code words = at_of edit.Code words
edit_of first.Data words = datum_of words
edit_of first.Clear words = at_of edit.Clear words
edit_of first.Remove words = remove_of words
edit_of first.Release words = release_of words
