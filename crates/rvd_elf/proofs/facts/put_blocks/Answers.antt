use Rattle.rvd_elf.specs.Facts.{block_fact}
use Rattle.rvd_elf.proofs.Placing.{with_facts-more}
use Rattle.rvd_elf.proofs.facts.put_blocks.Goals as goal

pub loop-region-preserved : goal.loop-region-preserved
loop-region-preserved c =
    with_facts-more (block_fact c.args.bytes.now) c.args.cells.now.entries c.loop-region.cells.entries c.put_block.new.cells.entries c.args.regions.now c.loop-region.region-index _
    c.loop-region-test.true c.loop-region.invariant c.in_ok-put_block.ensures
