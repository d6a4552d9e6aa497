use Rattle.std.proofs.Common.{◌≡◌}
use Rattle.std.specs.Prelude.{None, replicate}
use Rattle.rvd_player.proofs.reads.none_seen.Given as goal

-- none of the sessions so far has read
abbrev pub invariant-loop-k : goal.invariant-loop-k
invariant-loop-k l = l.seen.items ≡ replicate l.k None
