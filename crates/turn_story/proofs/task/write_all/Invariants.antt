use Rattle.std.proofs.Common.{◌≡◌, ◌++◌, map, take}
use Rattle.turn_story.specs.Written.{note}
use Rattle.turn_story.proofs.task.write_all.Given as goal

abbrev pub invariant-loop-number : goal.invariant-loop-number
invariant-loop-number g l = l.writer ≡ record l.initial.writer { own = l.initial.writer.own ++ map (note l.initial.writer.number) (take l.number-index l.numbers); seen = l.writer.seen }
