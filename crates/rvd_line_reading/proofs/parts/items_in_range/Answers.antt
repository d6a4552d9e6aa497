use Rattle.rvd_line_reading.specs.Replies.{FitsItem}
use Rattle.rvd_line_reading.proofs.Types.{all_done, all_at}
use Rattle.rvd_line_reading.proofs.parts.items_in_range.Goals as goal

pub loop-item-preserved : goal.loop-item-preserved
loop-item-preserved c = all_at FitsItem c.args.list.now c.loop-item.item-index _ c.loop-item-test.true c.loop-item.invariant c.word_in_range.ensures

pub returns : goal.returns
returns c = all_done FitsItem c.args.list.now c.loop-item.item-index c.loop-item-test.false c.loop-item.invariant
