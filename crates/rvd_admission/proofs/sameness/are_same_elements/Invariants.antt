use Rattle.std.proofs.Common.{◌≡◌, take}
use Rattle.rvd_admission.proofs.sameness.are_same_elements.Given as goal

-- the items so far are the same
abbrev pub invariant-loop-index : goal.invariant-loop-index
invariant-loop-index l = take l.index l.a ≡ take l.index l.b
