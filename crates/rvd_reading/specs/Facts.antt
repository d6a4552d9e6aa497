-- Parts of facts at the front of a text: permissions, forms of units, and the kinds of comments and types of bookmarks.
use Rattle.std.specs.Prelude.{ℕ, ◌<◌, Bool, true, false, List, [], ◌∷◌, Some, codes}
use Rattle.rvd_fact.specs.declared.values.Form.{Form}
use Rattle.rvd_fact.specs.declared.values.Form.TheVariants.{Byte, Half, Word, Str}
use Rattle.rvd_fact.specs.declared.values.Perm.{Perm}
use Rattle.rvd_reading.specs.Steps.{◌>>=◌, Step}
use Rattle.rvd_reading.specs.Fixed.{choose, just, nothing}
use Rattle.rvd_reading.specs.Numbers.{number_of}

-- a flag: its letter, or a dash
abbrev pub flag_of : List ℕ → List ℕ → Step Bool
flag_of letter bytes = choose ((letter, just true) ∷ (codes "-", just false) ∷ []) nothing bytes

unfoldable pub perm_of : List ℕ → Step Perm
perm_of bytes = do
  r ← flag_of (codes "r") bytes
  w ← flag_of (codes "w") r.1
  x ← flag_of (codes "x") w.1
  Some (record { r = r.0; w = w.0; x = x.0 }, x.1)

-- the length of a string
abbrev pub string_of : List ℕ → Step Form
string_of bytes = number_of 65535 bytes >>= (λ n. Some (Str n.0, n.1))

unfoldable pub form_of : List ℕ → Step Form
form_of bytes = choose ((codes "byte", just Byte) ∷ (codes "half", just Half) ∷ (codes "word", just Word) ∷ (codes "string ", string_of) ∷ []) nothing bytes

-- the words of the kinds of comments and of the types of bookmarks
abbrev pub comment_kinds : List (List ℕ × (List ℕ → Step ℕ))
comment_kinds = (codes "plate", just 0) ∷ (codes "pre", just 1) ∷ (codes "eol", just 2) ∷ (codes "post", just 3) ∷ (codes "repeatable", just 4) ∷ []

abbrev pub bookmark_types : List (List ℕ × (List ℕ → Step ℕ))
bookmark_types = (codes "note", just 0) ∷ (codes "info", just 1) ∷ (codes "analysis", just 2) ∷ (codes "warning", just 3) ∷ (codes "error", just 4) ∷ []

-- the kind of a comment, by its word or its number, and the type of a bookmark
unfoldable pub comment_kind_of : List ℕ → Step ℕ
comment_kind_of bytes = choose comment_kinds (number_of 255) bytes

unfoldable pub bookmark_type_of : List ℕ → Step ℕ
bookmark_type_of bytes = choose bookmark_types (number_of 255) bytes

-- the length of a string has 16 bits
abbrev pub FitsForm : Form → Type 0
FitsForm (Str n) = n < 65536
FitsForm f = Unit {0}
