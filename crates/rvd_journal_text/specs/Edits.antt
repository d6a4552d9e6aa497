-- How an edit is written: as in a script, each address and the length of a block in eight digits, and a body by the ranges
-- of its set. Use `edit_text`.
use Rattle.std.specs.Prelude.{ℕ, List, ◌++◌, flat_map, codes}
use Rattle.rvd_text.specs.Hex.{hex8}
use Rattle.rvd_text.specs.Quoted.{quoted}
use Rattle.rvd_event.specs.declared.edits.Edit.{Edit}
use Rattle.rvd_event.specs.declared.edits.Edit.TheVariants.{Block, Mark, Func, Body, Label, Ref, Comment, Bookmark, Code, Datum, Clear, Remove, Release}
use Rattle.rvd_notation.specs.Words.{class_word, comment_word, bookmark_word, form_words, perm_word, range_text, key_text}

-- ranges, each with a space before it
abbrev pub range_words : List (ℕ × ℕ) → List ℕ
range_words rs = flat_map (λ r. codes " " ++ range_text r) rs

unfoldable pub edit_text : Edit → List ℕ
edit_text (Block at len perm) = codes "block " ++ hex8 at ++ codes " " ++ hex8 len ++ codes " " ++ perm_word perm
edit_text (Mark at) = codes "mark " ++ hex8 at
edit_text (Func at) = codes "func " ++ hex8 at
edit_text (Body at ranges) = codes "body " ++ hex8 at ++ range_words ranges
edit_text (Label at name) = codes "label " ++ hex8 at ++ codes " " ++ quoted name
edit_text (Ref from to class) = codes "ref " ++ hex8 from ++ codes " " ++ hex8 to ++ codes " " ++ class_word class
edit_text (Comment at sub text) = codes "comment " ++ hex8 at ++ codes " " ++ comment_word sub ++ codes " " ++ quoted text
edit_text (Bookmark at sub text) = codes "bookmark " ++ hex8 at ++ codes " " ++ bookmark_word sub ++ codes " " ++ quoted text
edit_text (Code at) = codes "code " ++ hex8 at
edit_text (Datum at form) = codes "data " ++ hex8 at ++ codes " " ++ form_words form
edit_text (Clear at) = codes "clear " ++ hex8 at
edit_text (Remove k at sub) = codes "remove " ++ key_text (record { at = at; kind = k; sub = sub })
edit_text (Release k at sub) = codes "release " ++ key_text (record { at = at; kind = k; sub = sub })
