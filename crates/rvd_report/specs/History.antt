-- The history of a program: a head line with the number of steps, and a line for each step with its number, counted
-- from 1, and what was done by whom.
use Rattle.std.specs.Prelude.{ℕ, Bool, List, [], ◌∷◌, ◌++◌, flat_map, length, codes, if◌then◌else◌}
use Rattle.std.specs.List.{enumerate_from}
use Rattle.std.specs.Fmt.{decimal}
use Rattle.rvd_text.specs.Quoted.{quoted}
use Rattle.rvd_event.specs.declared.queries.Names.{Names}
use Rattle.rvd_event.specs.declared.steps.Step.{Step}
use Rattle.rvd_event.specs.declared.steps.Step.TheVariants.{Commit, Undo, Redo, Full, Cancel, Enable, Settled}
use Rattle.rvd_notation.specs.Actors.{actor_text, analyzer_word}

abbrev pub switch_word : Bool → List ℕ
switch_word on = if on then codes "on" else codes "off"

-- what a step did, and by whom
unfoldable pub step_text : Names → Step → List ℕ
step_text names (Commit actor text changes) = codes "commit " ++ actor_text names actor ++ codes " " ++ quoted text ++ codes " " ++ decimal changes
step_text names (Undo actor) = codes "undo " ++ actor_text names actor
step_text names (Redo actor) = codes "redo " ++ actor_text names actor
step_text names (Full actor) = codes "full " ++ actor_text names actor
step_text names (Cancel actor) = codes "cancel " ++ actor_text names actor
step_text names (Enable actor analyzer on) = codes "enable " ++ actor_text names actor ++ codes " " ++ analyzer_word analyzer ++ codes " " ++ switch_word on
step_text names Settled = codes "settled"

-- the line of a step with its number
unfoldable pub step_line : Names → ℕ × Step → List ℕ
step_line names step = decimal step.0 ++ codes " " ++ step_text names step.1 ++ 10 ∷ []

-- the lines of steps with their numbers
abbrev pub step_lines : Names → List (ℕ × Step) → List ℕ
step_lines names steps = flat_map (step_line names) steps

unfoldable pub history : List Step → Names → List ℕ
history steps names = codes "history " ++ decimal (length steps) ++ 10 ∷ [] ++ step_lines names (enumerate_from 1 steps)
