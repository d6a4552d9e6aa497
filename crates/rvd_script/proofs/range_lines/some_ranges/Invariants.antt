use Rattle.std.proofs.Common.{◌≡◌, []}
use Rattle.rvd_fact.specs.Ranges.{AreRanges}
use Rattle.rvd_script.specs.RangeLines.{with_ranges}
use Rattle.rvd_script.proofs.range_lines.some_ranges.Given as goal

-- the words so far made the set, and those that are left are added to it
abbrev pub invariant-loop-count : goal.invariant-loop-count
invariant-loop-count l = record {
  whole : with_ranges l.count l.set l.words ≡ with_ranges 0 [] l.fn.words;
  ranges : AreRanges l.set;
}
