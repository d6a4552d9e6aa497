use Rattle.std.proofs.Common.{◌≡◌, ℕ, ◌+◌, All, false}
use Rattle.rvd_turn.specs.Known.{Known}
use Rattle.bench_turn.proofs.locks.split_all.Given as goal

abbrev pub invariant-loop : goal.invariant-loop
invariant-loop l = record {
  this_turn : l.first.turn_id ≡ l.turn;
  made : l.first.made ≡ l.counter + 1;
  all : All (λ (p : Known ℕ ℕ). (p.turn_id ≡ l.turn) × (p.turn ≡ false)) l.passes.items;
}
