use Rattle.std.proofs.Common.{◌≡◌, ◌+◌, ◌++◌, length}
use Rattle.turn_story.specs.Runs.{AreReady}
use Rattle.turn_story.proofs.together.split_all.Given as goal

abbrev pub invariant-loop-numbers : goal.invariant-loop-numbers
invariant-loop-numbers l = record {
  first : l.first ≡ record l.initial.first { made = length l.yielded + 1 };
  owner : l.owner ≡ length l.yielded + 1;
  ready : AreReady l.initial.first 1 l.tasks.items l.yielded;
  parts : l.yielded ++ l.numbers-iterator.rest.items ≡ l.initial.numbers-iterator.rest.items;
}
