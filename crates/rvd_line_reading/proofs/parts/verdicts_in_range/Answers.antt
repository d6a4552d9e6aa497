use Rattle.rvd_journal_reading.specs.Verdicts.{FitsVerdict}
use Rattle.rvd_line_reading.proofs.Types.{all_done, all_more}
use Rattle.rvd_line_reading.proofs.parts.verdicts_in_range.Goals as goal

pub loop-verdict-preserved : goal.loop-verdict-preserved
loop-verdict-preserved c = all_more FitsVerdict c.args.list.now c.loop-verdict.verdict-index c.verdict-item.result c.loop-verdict-test.true c.verdict-item.is c.loop-verdict.invariant c.verdict_in_range.ensures

pub returns : goal.returns
returns c = all_done FitsVerdict c.args.list.now c.loop-verdict.verdict-index c.loop-verdict-test.false c.loop-verdict.invariant
