-- What many writers leave, each with a list of numbers to write: first their tasks, then what became of each, then the story.
use Rattle.std.specs.Prelude.{◌≡◌, ℕ, ◌+◌, Vec, List, [], ◌∷◌, ◌++◌, map, true, false}
use Rattle.std.specs.declared.alloc.Global.{Global}
use Rattle.rvd_turn.specs.Known.{Known, split_off}
use Rattle.rvd_turn.specs.Story.{owned}
use Rattle.turn_story.specs.declared.story.Note.{Note}
use Rattle.turn_story.specs.declared.task.Task.{Task}
use Rattle.turn_story.specs.declared.task.Done.{Done}
use Rattle.turn_story.specs.Written.{note}

-- The pass of the number k that p split off.
abbrev pub split_at : Known ℕ Note → ℕ → Known ℕ Note
split_at p k = split_off (record p { made = k })

-- A task for each list, with the passes from the number k on.
abbrev pub AreReady : Known ℕ Note → ℕ → List Task → List (Vec ℕ Global) → Type 0
AreReady p k [] [] = Unit {0}
AreReady p k (j ∷ js) (s ∷ ss) = (j.writer ≡ split_at p k) × (j.numbers ≡ s) × AreReady p (k + 1) js ss
AreReady p k _ _ = ⊥

-- The task is done: the pass is the writer's, and where it is done whole, its own notes gained the task's numbers, in order.
abbrev pub IsDone : Task → Done → Type 0
IsDone j d = (d.pass.turn_id ≡ j.writer.turn_id) × (d.pass.number ≡ j.writer.number) × (d.pass.met ≡ j.writer.met) × (d.pass.made ≡ j.writer.made) × (d.pass.turn ≡ false)
    × (d.whole ≡ true → d.pass.own ≡ j.writer.own ++ map (note j.writer.number) j.numbers.items)

abbrev pub AreDone : List Task → List Done → Type 0
AreDone [] [] = Unit {0}
AreDone (j ∷ js) (d ∷ ds) = IsDone j d × AreDone js ds
AreDone _ _ = ⊥

-- Of the owners from k on, the notes have just the numbers of their lists, in order.
abbrev pub EachWrote : List Note → ℕ → List (Vec ℕ Global) → Type 0
EachWrote log k [] = Unit {0}
EachWrote log k (s ∷ ss) = (owned (λ e. e.owner) k log ≡ map (note k) s.items) × EachWrote log (k + 1) ss
