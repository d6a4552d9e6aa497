use Rattle.std.proofs.Common.{◌≡◌, ◌+◌, ◌-◌, ◌++◌}
use Rattle.rvd_ask.specs.Answers.{told}
use Rattle.rvd_ask.specs.Flow.{free_asks, is_free}
use Rattle.rvd_ask.proofs.asking.ask_free.Given as goal

-- what is left to ask of the bytes that are left, which are free where all are
abbrev pub invariant-loop-offset : goal.invariant-loop-offset
invariant-loop-offset g l = record {
  reads : l.reads.items ++ told (g.V.View.program l.view) (free_asks (g.V.View.program l.view) (l.at + l.offset) (l.count - l.offset)) ≡ l.fn.reads.items ++ told (g.V.View.program l.view) (free_asks (g.V.View.program l.view) l.at l.count);
  free : is_free (g.V.View.program l.view) (l.at + l.offset) (l.count - l.offset) ≡ is_free (g.V.View.program l.view) l.at l.count;
}
