-- The words of sources, kinds, classes and permissions, and how sets of addresses and keys are written. The
-- listing, the journal, scripts and event files share them.
use Rattle.std.specs.Prelude.{ℕ, ◌/◌, ◌%◌, List, [], ◌∷◌, ◌++◌, ◌==◌, flat_map, codes, if◌then◌else◌, Option, None, Some}
use Rattle.std.specs.Char.{digit_char}
use Rattle.std.specs.Fmt.{decimal}
use Rattle.rvd_text.specs.Hex.{hex8}
use Rattle.rvd_fact.specs.declared.keys.Kind.{Kind}
use Rattle.rvd_fact.specs.declared.keys.Kind.TheVariants.{Block, Mark, Func, Body, Symbol, Comment, Bookmark, Unit as UnitKind, Ref}
use Rattle.rvd_fact.specs.declared.keys.Key.{Key}
use Rattle.rvd_fact.specs.declared.values.Source.{Source}
use Rattle.rvd_fact.specs.declared.values.Source.TheVariants.{Default, Analysis, Imported, UserDefined}
use Rattle.rvd_fact.specs.declared.values.Perm.{Perm}
use Rattle.rvd_fact.specs.declared.values.Form.{Form}
use Rattle.rvd_fact.specs.declared.values.Form.TheVariants.{Byte, Half, Word, Str}
use Rattle.rvd_fact.specs.declared.values.RefClass.{RefClass}
use Rattle.rvd_fact.specs.declared.values.RefClass.TheVariants.{Call, Jump, Cond, Datum, Read, Write}

abbrev pub source_word : Source → List ℕ
source_word Default = codes "default"
source_word Analysis = codes "analysis"
source_word Imported = codes "imported"
source_word UserDefined = codes "user"

abbrev pub kind_word : Kind → List ℕ
kind_word Block = codes "block"
kind_word Mark = codes "mark"
kind_word Func = codes "func"
kind_word Body = codes "body"
kind_word Symbol = codes "symbol"
kind_word Comment = codes "comment"
kind_word Bookmark = codes "bookmark"
kind_word UnitKind = codes "unit"
kind_word Ref = codes "ref"

abbrev pub class_word : RefClass → List ℕ
class_word Call = codes "call"
class_word Jump = codes "jump"
class_word Cond = codes "cond"
class_word Datum = codes "data"
class_word Read = codes "read"
class_word Write = codes "write"

-- the kind of a comment; a number that has no word stands for itself
abbrev pub comment_word : ℕ → List ℕ
comment_word sub =
    if sub == 0 then codes "plate"
    else (if sub == 1 then codes "pre"
    else (if sub == 2 then codes "eol"
    else (if sub == 3 then codes "post"
    else (if sub == 4 then codes "repeatable" else decimal sub))))

-- the type of a bookmark; a number that has no word stands for itself
abbrev pub bookmark_word : ℕ → List ℕ
bookmark_word sub =
    if sub == 0 then codes "note"
    else (if sub == 1 then codes "info"
    else (if sub == 2 then codes "analysis"
    else (if sub == 3 then codes "warning"
    else (if sub == 4 then codes "error" else decimal sub))))

abbrev pub form_words : Form → List ℕ
form_words Byte = codes "byte"
form_words Half = codes "half"
form_words Word = codes "word"
form_words (Str n) = codes "string " ++ decimal n

-- the permissions as three letters or dashes: read, write, execute
abbrev pub perm_word : Perm → List ℕ
perm_word p = (if p.r then 114 else 45) ∷ (if p.w then 119 else 45) ∷ (if p.x then 120 else 45) ∷ []

-- the two digits of a byte
abbrev pub hex2 : ℕ → List ℕ
hex2 b = digit_char (b / 16) ∷ digit_char (b % 16) ∷ []

-- whether a block's bytes are known
abbrev pub init_word : Option (List ℕ) → List ℕ
init_word None = codes "none"
init_word (Some bytes) = codes "init"

-- a range of addresses, both ends inside
abbrev pub range_text : ℕ × ℕ → List ℕ
range_text r = hex8 r.0 ++ codes "-" ++ hex8 r.1

-- ranges, each with a comma before it
abbrev pub more_ranges : List (ℕ × ℕ) → List ℕ
more_ranges rs = flat_map (λ r. codes "," ++ range_text r) rs

-- a set of addresses: its ranges joined by commas, or a dash where it is empty
abbrev pub ranges_text : List (ℕ × ℕ) → List ℕ
ranges_text [] = codes "-"
ranges_text (r ∷ rs) = range_text r ++ more_ranges rs

-- a key: its kind, its address and its number
abbrev pub key_text : Key → List ℕ
key_text k = kind_word k.kind ++ codes " " ++ hex8 k.at ++ codes " " ++ decimal k.sub
