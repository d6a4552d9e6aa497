-- The history of worked examples, as the definition gives it.
use Rattle.std.proofs.Common.{◌≡◌, refl, List, ℕ, [], ◌∷◌, ◌++◌, codes, arith}
use Rattle.std.specs.Fmt.{decimal}
use Rattle.std.proofs.lemmas.Fmt.{decimal_digit}
use Rattle.rvd_event.specs.declared.queries.Names.{Names}
use Rattle.rvd_event.specs.declared.steps.Step.{Step}
use Rattle.rvd_event.specs.declared.steps.Step.TheVariants.{Commit, Undo, Redo, Full, Settled}
use Rattle.rvd_report.specs.History.{history, step_line, step_text}

abbrev line_end : List ℕ
line_end = 10 ∷ []

abbrev names : Names
names = record { sessions = 1; workers = 1 }

one : decimal 1 ≡ 49 ∷ []
one = decimal_digit 1 (omega arith)

two : decimal 2 ≡ 50 ∷ []
two = decimal_digit 2 (omega arith)

three : decimal 3 ≡ 51 ∷ []
three = decimal_digit 3 (omega arith)

-- a name is set, undone and redone
abbrev undone_and_redone : List Step
undone_and_redone = Commit 1 (codes "name") 1 ∷ Undo 1 ∷ Redo 1 ∷ []

history-undone_and_redone : history undone_and_redone names ≡ codes "history 3" ++ line_end ++ codes "1 commit s1 \"name\" 1" ++ line_end ++ codes "2 undo s1" ++ line_end ++ codes "3 redo s1" ++ line_end
unfolding history step_line step_text
history-undone_and_redone = rw (one, two, three) refl

-- an analysis by one worker, which is the actor behind the one session
abbrev settled : List Step
settled = Full 1 ∷ Commit 2 (codes "Analysis") 3 ∷ Settled ∷ []

history-settled : history settled names ≡ codes "history 3" ++ line_end ++ codes "1 full s1" ++ line_end ++ codes "2 commit w1 \"Analysis\" 3" ++ line_end ++ codes "3 settled" ++ line_end
unfolding history step_line step_text
history-settled = rw (one, two, three) refl
