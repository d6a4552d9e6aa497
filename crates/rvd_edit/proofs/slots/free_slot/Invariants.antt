use Rattle.std.proofs.Common.{◌≡◌, ◌-◌}
use Rattle.rvd_edit.specs.Slots.{free_slot}
use Rattle.rvd_edit.proofs.slots.free_slot.Given as goal

-- the lowest of the slots that are left is that of all
abbrev pub invariant-loop-slot : goal.invariant-loop-slot
invariant-loop-slot l = free_slot l.program l.kind l.at l.slot (64 - l.slot) ≡ free_slot l.program l.kind l.at l.low (64 - l.low)
