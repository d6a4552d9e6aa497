-- How the verdicts of an offer are written. Use `verdicts_text` for all of them.
use Rattle.std.specs.Prelude.{ℕ, List, [], ◌∷◌, ◌++◌, flat_map, codes}
use Rattle.std.specs.Fmt.{decimal}
use Rattle.rvd_ask.specs.declared.asks.Ask.{Ask}
use Rattle.rvd_ask.specs.declared.answers.Answer.{Answer}
use Rattle.rvd_event.specs.declared.verdicts.Verdict.{Verdict}
use Rattle.rvd_event.specs.declared.verdicts.Verdict.TheVariants.{Joined, Nothing, Off, Stale, Foreign}
use Rattle.rvd_journal_text.specs.Answers.{ask_text, answer_text}

-- an ask and two answers to it
abbrev pub difference_text : Ask → Answer → Answer → List ℕ
difference_text ask first second = ask_text ask ++ codes " " ++ answer_text ask first ++ codes " " ++ answer_text ask second

unfoldable pub verdict_text : Verdict → List ℕ
verdict_text (Joined changes) = codes "joined " ++ decimal changes
verdict_text Nothing = codes "nothing"
verdict_text Off = codes "off"
verdict_text (Stale ask was now) = codes "stale " ++ difference_text ask was now
verdict_text (Foreign ask said was) = codes "foreign " ++ difference_text ask said was

-- verdicts, each with a space before it
abbrev pub more_verdicts : List Verdict → List ℕ
more_verdicts verdicts = flat_map (λ v. codes " " ++ verdict_text v) verdicts

-- the verdicts one after the other
abbrev pub verdicts_text : List Verdict → List ℕ
verdicts_text [] = []
verdicts_text (v ∷ vs) = verdict_text v ++ more_verdicts vs
