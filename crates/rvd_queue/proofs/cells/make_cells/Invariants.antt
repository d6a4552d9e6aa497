use Rattle.std.proofs.Common.{◌≡◌, ◌+◌, ◌≤◌, true, length, take, drop}
use Rattle.std.specs.Map.{keys_of}
use Rattle.rvd_queue.specs.Cells.{InOrder, KeepsCells, contents_of, have_cells, queued_in, kept_in}
use Rattle.rvd_queue.specs.Sets.{with_all, without_all}
use Rattle.rvd_queue.proofs.cells.make_cells.Given as goal

abbrev pub invariant-loop-item : goal.invariant-loop-item
invariant-loop-item l = record {
  order : InOrder l.cells.entries;
  contents : contents_of l.cells.entries ≡ contents_of l.initial.cells.entries;
  there : have_cells (take l.item-index l.items) l.cells.entries ≡ true;
  stay : KeepsCells l.initial.cells.entries l.cells.entries;
}
