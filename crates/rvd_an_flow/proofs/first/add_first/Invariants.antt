use Rattle.std.proofs.Common.{◌≡◌, ◌++◌, drop}
use Rattle.rvd_ask.specs.Answers.{told}
use Rattle.rvd_an_flow.specs.Parts.{first_asks, first_decided}
use Rattle.rvd_an_flow.proofs.first.add_first.Given as goal

-- what is left to ask of the starts that are left, and what their first changes that isn't passed over
abbrev pub invariant-loop-start : goal.invariant-loop-start
invariant-loop-start g l = record {
  reads : l.reads.items ++ told (g.V.View.program l.view) (first_asks (g.V.View.program l.view) (drop l.start-index l.starts)) ≡ l.fn.reads.items ++ told (g.V.View.program l.view) (first_asks (g.V.View.program l.view) l.starts);
  changes : l.changes.items ≡ l.fn.changes.items;
  first : first_decided (g.V.View.program l.view) (drop l.start-index l.starts) ≡ first_decided (g.V.View.program l.view) l.starts;
}
