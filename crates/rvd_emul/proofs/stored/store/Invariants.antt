use Rattle.std.proofs.Common.{◌+◌, drop}
use Rattle.rvd_emul.specs.Machine.{SameBytes, stored_from}
use Rattle.rvd_emul.proofs.stored.store.Given as goal

-- with the bytes that are left, what is stored is what all bytes make of it
abbrev pub invariant-loop-index : goal.invariant-loop-index
invariant-loop-index l = SameBytes (stored_from l.at l.bytes l.initial.stored) (stored_from (l.at + l.index) (drop l.index l.bytes) l.stored)
