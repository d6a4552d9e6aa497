use Rattle.std.proofs.Common.{◌≡◌, false}
use Rattle.bench_turn.proofs.locks.take_and_give.Given as goal

abbrev pub invariant-loop : goal.invariant-loop
invariant-loop g l = record { this_turn : l.pass.turn_id ≡ l.turn; no_turn : l.pass.turn ≡ false }
