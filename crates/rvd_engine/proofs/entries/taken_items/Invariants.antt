use Rattle.std.proofs.Common.{◌≡◌}
use Rattle.rvd_engine.proofs.JobLists.{items_to}
use Rattle.rvd_engine.proofs.entries.taken_items.Given as goal

-- the items so far
abbrev pub invariant-loop-place : goal.invariant-loop-place
invariant-loop-place l = l.list.items ≡ items_to l.place l.taken
