use Rattle.std.proofs.Common.{length}
use Rattle.rvd_replay.specs.Replaying.{Replays}
use Rattle.rvd_replay.proofs.replaying.replay_entries.Given as goal

abbrev pub invariant-loop-desk : goal.invariant-loop-desk
invariant-loop-desk l = Replays l.fn.program l.names l.fn.lines l.desk l.rest

abbrev pub decreases-loop-desk : goal.decreases-loop-desk
decreases-loop-desk l = length l.rest
