use Rattle.std.proofs.Common.{◌≡◌, ◌+◌, ◌++◌, length}
use Rattle.rvd_engine.proofs.working.note_all.Given as goal

-- the changes so far are noted, in the room that they took
abbrev pub invariant-loop-change : goal.invariant-loop-change
invariant-loop-change l = (l.joint ≡ record l.fn.joint { changes = l.fn.joint.changes ++ l.yielded; spare = l.joint.spare }) × (l.joint.spare + length l.yielded ≡ l.fn.joint.spare)
