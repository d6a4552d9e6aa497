-- The answers to queries: a head line with their number, and a line for each with its session, the number of its line in
-- the session's file, and the answer.
use Rattle.std.specs.Prelude.{ℕ, List, [], ◌∷◌, ◌++◌, flat_map, length, codes}
use Rattle.std.specs.Fmt.{decimal}
use Rattle.rvd_report.specs.declared.answer_lines.Answered.{Answered}

-- the line of an answered query with its line feed
unfoldable pub answer_line : Answered → List ℕ
answer_line a = codes "s" ++ decimal a.session ++ codes " " ++ decimal a.line ++ codes " " ++ a.answer ++ 10 ∷ []

-- the lines of answered queries
abbrev pub answer_lines : List Answered → List ℕ
answer_lines answered = flat_map answer_line answered

unfoldable pub answers_text : List Answered → List ℕ
answers_text answered = codes "answers " ++ decimal (length answered) ++ 10 ∷ [] ++ answer_lines answered
