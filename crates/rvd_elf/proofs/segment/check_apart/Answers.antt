use Rattle.std.proofs.Common.{sym, ◌∙◌}
use Rattle.rvd_elf.proofs.Regions.{goes_on, overlaps_at, all_apart}
use Rattle.rvd_elf.proofs.segment.check_apart.Goals as goal

pub loop-i-preserved : goal.loop-i-preserved
loop-i-preserved c = goes_on c.args.regions.now c.loop-i.i c.loop-i.auto.i c.loop-i-test.true c.loop-i.invariant (sym c.reaches_into.ensures ∙ c.if-reaches_into.false)

pub returns-then-reaches_into : goal.returns-then-reaches_into
returns-then-reaches_into c = overlaps_at c.args.regions.now c.loop-i.i c.loop-i.auto.i c.loop-i-test.true c.loop-i.invariant (sym c.reaches_into.ensures ∙ c.if-reaches_into.true)

pub returns : goal.returns
returns c = all_apart c.args.regions.now c.loop-i.i c.loop-i.auto.i c.loop-i-test.false c.loop-i.invariant
