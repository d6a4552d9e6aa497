use Rattle.std.proofs.Common.{take}
use Rattle.std.specs.List.{AllByRecursion}
use Rattle.rvd_line_reading.specs.Replies.{FitsItem}
use Rattle.rvd_line_reading.proofs.parts.items_in_range.Given as goal

-- so far
abbrev pub invariant-loop-item : goal.invariant-loop-item
invariant-loop-item l = AllByRecursion FitsItem (take l.item-index l.list)
