use Rattle.std.proofs.Common.{◌≡◌, All, take, true}
use Rattle.turn_story.specs.declared.task.Done.{Done}
use Rattle.turn_story.proofs.together.all_whole.Given as goal

abbrev pub invariant-loop-done : goal.invariant-loop-done
invariant-loop-done l = All (λ (d : Done). d.whole ≡ true) (take l.done-index l.all)
