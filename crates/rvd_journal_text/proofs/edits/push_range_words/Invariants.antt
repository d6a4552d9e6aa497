use Rattle.std.proofs.Common.{◌≡◌, ◌++◌, take}
use Rattle.rvd_journal_text.specs.Edits.{range_words}
use Rattle.rvd_journal_text.proofs.edits.push_range_words.Given as goal

-- those so far
abbrev pub invariant-loop-range : goal.invariant-loop-range
invariant-loop-range l = l.out.items ≡ l.fn.out.items ++ range_words (take l.range-index l.ranges)
