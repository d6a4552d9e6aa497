use Rattle.std.proofs.Common.{◌≡◌, ◌*◌, ◌≤◌, take, sum_by}
use Rattle.rvd_elf.specs.Segment.{loaded_len}
use Rattle.rvd_elf.proofs.segment.count_loaded.Given as goal

abbrev pub invariant-loop-region : goal.invariant-loop-region
invariant-loop-region l = record {
  bound : l.loaded ≤ 4294967296 * l.region-index;
  value : l.loaded ≡ sum_by loaded_len (take l.region-index l.regions);
}
