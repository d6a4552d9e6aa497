-- What is printed of a generated image after a whole analysis: how many facts of some kinds are present, a line each.
use Rattle.std.specs.Prelude.{◌≡◌, ℕ, Bool, true, false, List, [], ◌∷◌, ◌++◌, count_by, codes}
use Rattle.std.specs.Fmt.{decimal}
use Rattle.rvd_fact.specs.declared.keys.Key.{Key}
use Rattle.rvd_fact.specs.declared.cells.Cell.{Cell}
use Rattle.rvd_fact.specs.declared.values.Value.{Value}
use Rattle.rvd_fact.specs.declared.values.Value.TheVariants.{Func, Code, Plain, Ref, Bookmark}
use Rattle.rvd_fact.specs.declared.values.Form.TheVariants.{Str}
use Rattle.rvd_fact.specs.Program.{Program}
use Rattle.rvd_machine.specs.State.{base}
use Rattle.rvd_desk.specs.Story.{Story, state_of}
use Rattle.rvd_player.specs.Analysed.{IsAnalysed}
use Rattle.rvd_top.specs.declared.summary.Counted.{Counted}
use Rattle.rvd_top.specs.declared.summary.Counted.TheVariants as counted

-- a value is of a kind that is counted
abbrev pub is_counted : Counted → Value → Bool
is_counted counted.Functions Func = true
is_counted counted.Instructions (Code word) = true
is_counted counted.Strings (Plain (Str len)) = true
is_counted counted.References (Ref to class) = true
is_counted counted.Bookmarks (Bookmark text) = true
is_counted kind value = false

-- how many facts of a kind are present in a program; a Gone cell is none of them
abbrev pub number_of : Counted → Program → ℕ
number_of kind S = count_by (λ (f : Key × Cell). is_counted kind f.1.value) S

-- a word and a number, as a line
unfoldable pub number_line : List ℕ → ℕ → List ℕ
number_line word n = word ++ 32 ∷ decimal n ++ 10 ∷ []

abbrev pub settled_line : List ℕ
settled_line = codes "settled" ++ 10 ∷ []

abbrev pub summary : Program → List ℕ
summary S =
    number_line (codes "functions") (number_of counted.Functions S)
    ++ number_line (codes "instructions") (number_of counted.Instructions S)
    ++ number_line (codes "strings") (number_of counted.Strings S)
    ++ number_line (codes "references") (number_of counted.References S)
    ++ number_line (codes "bookmarks") (number_of counted.Bookmarks S)
    ++ settled_line

-- a text is the summary of a program after a whole analysis
pub record IsSummed (P : Program) (text : List ℕ) : Type 0 where
  pub reached : Story
  pub analysed : IsAnalysed P reached
  pub is_text : text ≡ summary (base (state_of reached))
