-- A verdict at the front of a text. Use `verdict_of`.
use Rattle.std.specs.Prelude.{ℕ, ◌^◌, ◌<◌, List, [], ◌∷◌, Some, codes}
use Rattle.rvd_ask.specs.declared.asks.Ask.{Ask}
use Rattle.rvd_ask.specs.declared.answers.Answer.{Answer}
use Rattle.rvd_event.specs.declared.verdicts.Verdict.{Verdict}
use Rattle.rvd_event.specs.declared.verdicts.Verdict.TheVariants.{Joined, Nothing, Off, Stale, Foreign}
use Rattle.rvd_reading.specs.Steps.{◌>>=◌, Step, behind}
use Rattle.rvd_reading.specs.Fixed.{choose, just, nothing}
use Rattle.rvd_reading.specs.Numbers.{number_of}
use Rattle.rvd_journal_reading.specs.Asks.{FitsAsk, ask_of}
use Rattle.rvd_journal_reading.specs.Answers.{FitsAnswer, answer_of, bare_answer}

-- an ask and two answers to it
unfoldable pub difference_of : List ℕ → Step (Ask × Answer × Answer)
difference_of bytes = do
  ask ← ask_of bytes
  gap ← behind (codes " ") ask.1
  first ← answer_of ask.0 gap.1
  second_gap ← behind (codes " ") first.1
  second ← answer_of ask.0 second_gap.1
  Some ((ask.0, first.0, second.0), second.1)

abbrev pub joined_of : List ℕ → Step Verdict
joined_of bytes = number_of 4294967295 bytes >>= (λ n. Some (Joined n.0, n.1))

abbrev pub stale_of : List ℕ → Step Verdict
stale_of bytes = difference_of bytes >>= (λ d. Some (Stale d.0.0 d.0.1 d.0.2, d.1))

abbrev pub foreign_of : List ℕ → Step Verdict
foreign_of bytes = difference_of bytes >>= (λ d. Some (Foreign d.0.0 d.0.1 d.0.2, d.1))

abbrev pub verdicts : List (List ℕ × (List ℕ → Step Verdict))
verdicts =
    (codes "joined ", joined_of)
    ∷ (codes "nothing", just Nothing)
    ∷ (codes "off", just Off)
    ∷ (codes "stale ", stale_of)
    ∷ (codes "foreign ", foreign_of)
    ∷ []

unfoldable pub verdict_of : List ℕ → Step Verdict
verdict_of bytes = choose verdicts nothing bytes

-- the parts of a verdict are in their ranges
abbrev pub FitsVerdict : Verdict → Type 0
FitsVerdict (Joined n) = n < 2 ^ 32
FitsVerdict (Stale ask was now) = FitsAsk ask × FitsAnswer was × FitsAnswer now
FitsVerdict (Foreign ask said was) = FitsAsk ask × FitsAnswer said × FitsAnswer was
FitsVerdict v = Unit {0}

-- what the text of a verdict tells of it: all but the bytes of blocks
abbrev pub bare_verdict : Verdict → Verdict
bare_verdict (Stale ask was now) = Stale ask (bare_answer was) (bare_answer now)
bare_verdict (Foreign ask said was) = Foreign ask (bare_answer said) (bare_answer was)
bare_verdict v = v
