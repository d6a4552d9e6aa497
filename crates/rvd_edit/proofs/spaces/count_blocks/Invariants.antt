use Rattle.std.proofs.Common.{◌≡◌, take}
use Rattle.std.specs.List.{count_by}
use Rattle.rvd_edit.specs.Spaces.{is_block}
use Rattle.rvd_edit.proofs.spaces.count_blocks.Given as goal

-- the blocks among the entries so far
abbrev pub invariant-loop-entry : goal.invariant-loop-entry
invariant-loop-entry l = l.count ≡ count_by is_block (take l.entry-index l.entries)
