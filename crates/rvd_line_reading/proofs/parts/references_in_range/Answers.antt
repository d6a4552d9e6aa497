use Rattle.rvd_journal_reading.specs.Answers.{FitsReference}
use Rattle.rvd_line_reading.proofs.Types.{all_done, all_at}
use Rattle.rvd_line_reading.proofs.parts.references_in_range.Goals as goal

pub loop-slot-preserved : goal.loop-slot-preserved
loop-slot-preserved c = all_at FitsReference c.args.list.now c.loop-slot.slot-index _ c.loop-slot-test.true c.loop-slot.invariant (c.small_in_range.ensures, c.word_in_range.ensures)

pub returns : goal.returns
returns c = all_done FitsReference c.args.list.now c.loop-slot.slot-index c.loop-slot-test.false c.loop-slot.invariant
