use Rattle.std.proofs.Common.{◌≡◌, ◌-◌}
use Rattle.rvd_fact.specs.declared.keys.Kind.TheVariants as kind
use Rattle.rvd_fact.specs.Program.{cell_at}
use Rattle.rvd_edit.specs.Slots.{first_slot, has_name, slot_key, slot_with}
use Rattle.rvd_edit.proofs.slots.slot_with_name.Given as goal

-- the lowest of the slots that are left is that of all
abbrev pub invariant-loop-slot : goal.invariant-loop-slot
invariant-loop-slot l = first_slot (λ slot. has_name l.name (cell_at l.program (slot_key kind.Symbol l.at slot))) l.slot (64 - l.slot) ≡ slot_with l.program kind.Symbol l.at (has_name l.name)
