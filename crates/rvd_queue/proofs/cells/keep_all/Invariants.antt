use Rattle.std.proofs.Common.{◌≡◌, ◌+◌, ◌≤◌, true, length, take, drop}
use Rattle.std.specs.Map.{keys_of}
use Rattle.rvd_queue.specs.Cells.{InOrder, KeepsCells, contents_of, have_cells, queued_in, kept_in}
use Rattle.rvd_queue.specs.Sets.{with_all, without_all}
use Rattle.rvd_queue.proofs.cells.keep_all.Given as goal

abbrev pub invariant-loop-item : goal.invariant-loop-item
invariant-loop-item l = record {
  queued : queued_in l.cells.entries ≡ queued_in l.initial.cells.entries;
  kept : with_all (drop l.item-index l.items) (kept_in l.cells.entries) ≡ with_all l.items (kept_in l.initial.cells.entries);
  keys : keys_of l.cells.entries ≡ keys_of l.initial.cells.entries;
}
