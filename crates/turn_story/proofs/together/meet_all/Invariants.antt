use Rattle.std.proofs.Common.{◌≡◌, ◌++◌, map, All, false}
use Rattle.rvd_turn.specs.Known.{met_all}
use Rattle.turn_story.specs.declared.task.Done.{Done}
use Rattle.turn_story.proofs.together.meet_all.Given as goal

abbrev pub invariant-loop-done : goal.invariant-loop-done
invariant-loop-done l = record {
  met : l.first ≡ met_all l.initial.first (map (λ (d : Done). d.pass) l.yielded);
  turn_id : l.first.turn_id ≡ l.initial.first.turn_id;
  idle : l.first.turn ≡ l.initial.first.turn;
  others : All (λ (d : Done). (d.pass.turn_id ≡ l.turn) × (d.pass.turn ≡ false)) l.done-iterator.rest.items;
  parts : l.yielded ++ l.done-iterator.rest.items ≡ l.initial.done-iterator.rest.items;
}
