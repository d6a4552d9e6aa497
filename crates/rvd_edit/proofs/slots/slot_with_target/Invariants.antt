use Rattle.std.proofs.Common.{◌≡◌, ◌-◌}
use Rattle.rvd_fact.specs.declared.keys.Kind.TheVariants as kind
use Rattle.rvd_fact.specs.Program.{cell_at}
use Rattle.rvd_edit.specs.Slots.{first_slot, has_target, slot_key, slot_with}
use Rattle.rvd_edit.proofs.slots.slot_with_target.Given as goal

-- the lowest of the slots that are left is that of all
abbrev pub invariant-loop-slot : goal.invariant-loop-slot
invariant-loop-slot l = first_slot (λ slot. has_target l.to l.class (cell_at l.program (slot_key kind.Ref l.at slot))) l.slot (64 - l.slot) ≡ slot_with l.program kind.Ref l.at (has_target l.to l.class)
