-- How a cell is written: the word of its source and its fact. Use `value_text` for a whole cell.
use Rattle.std.specs.Prelude.{ℕ, List, ◌++◌, codes}
use Rattle.std.specs.Fmt.{decimal}
use Rattle.rvd_text.specs.Hex.{hex8}
use Rattle.rvd_text.specs.Quoted.{quoted}
use Rattle.rvd_fact.specs.declared.keys.Key.{Key}
use Rattle.rvd_fact.specs.declared.cells.Cell.{Cell}
use Rattle.rvd_fact.specs.declared.values.Value.{Value}
use Rattle.rvd_fact.specs.declared.values.Value.TheVariants.{Block, Mark, Func, Body, Symbol, Comment, Bookmark, Code, Plain, Ref, Gone}
use Rattle.rvd_notation.specs.Words.{source_word, kind_word, class_word, comment_word, bookmark_word, form_words, perm_word, init_word, ranges_text}

-- a fact at a key
unfoldable pub fact_text : Key → Value → List ℕ
fact_text k (Block len perm bytes) = codes "block " ++ hex8 len ++ codes " " ++ perm_word perm ++ codes " " ++ init_word bytes
fact_text k Mark = codes "mark"
fact_text k Func = codes "func"
fact_text k (Body ranges) = codes "body " ++ ranges_text ranges
fact_text k (Symbol name) = codes "symbol " ++ decimal k.sub ++ codes " " ++ quoted name
fact_text k (Comment text) = codes "comment " ++ comment_word k.sub ++ codes " " ++ quoted text
fact_text k (Bookmark text) = codes "bookmark " ++ bookmark_word k.sub ++ codes " " ++ quoted text
fact_text k (Code word) = codes "code " ++ hex8 word
fact_text k (Plain form) = codes "data " ++ form_words form
fact_text k (Ref to class) = codes "ref " ++ decimal k.sub ++ codes " " ++ class_word class ++ codes " " ++ hex8 to
fact_text k Gone = codes "gone " ++ kind_word k.kind ++ codes " " ++ decimal k.sub

-- the cell at a key
abbrev pub value_text : Key → Cell → List ℕ
value_text k c = source_word c.source ++ codes " " ++ fact_text k c.value
