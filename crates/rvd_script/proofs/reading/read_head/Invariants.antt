use Rattle.std.proofs.Common.{◌≡◌, ◌+◌, ◌≤◌, length}
use Rattle.rvd_script.specs.Files.{events_from}
use Rattle.rvd_script.proofs.reading.read_head.Given as goal

-- the lines so far were skipped
abbrev pub invariant-loop-line : goal.invariant-loop-line
invariant-loop-line l = record {
  whole : events_from 1 l.fn.lines ≡ events_from l.number l.lines;
  number : l.number + length l.lines ≤ 100001;
}

abbrev pub decreases-loop-line : goal.decreases-loop-line
decreases-loop-line l = length l.lines
