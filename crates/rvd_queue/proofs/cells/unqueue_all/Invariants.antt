use Rattle.std.proofs.Common.{◌≡◌, ◌+◌, ◌≤◌, true, length, take, drop}
use Rattle.std.specs.Map.{keys_of}
use Rattle.rvd_queue.specs.Cells.{InOrder, KeepsCells, contents_of, have_cells, queued_in, kept_in}
use Rattle.rvd_queue.specs.Sets.{with_all, without_all}
use Rattle.rvd_queue.proofs.cells.unqueue_all.Given as goal

abbrev pub invariant-loop-item : goal.invariant-loop-item
invariant-loop-item l = record {
  order : InOrder l.cells.entries;
  queued : without_all (drop l.item-index l.items) (queued_in l.cells.entries) ≡ without_all l.items (queued_in l.initial.cells.entries);
  kept : kept_in l.cells.entries ≡ kept_in l.initial.cells.entries;
  count : length (queued_in l.cells.entries) + l.removed ≡ length (queued_in l.initial.cells.entries);
  few : l.removed ≤ l.item-index;
}
