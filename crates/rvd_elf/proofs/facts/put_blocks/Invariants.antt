use Rattle.std.proofs.Common.{◌≡◌, map, take}
use Rattle.rvd_elf.specs.Facts.{block_fact, with_facts}
use Rattle.rvd_elf.proofs.facts.put_blocks.Given as goal

abbrev pub invariant-loop-region : goal.invariant-loop-region
invariant-loop-region l = l.cells.entries ≡ with_facts l.fn.cells.entries (map (block_fact l.bytes) (take l.region-index l.regions))
