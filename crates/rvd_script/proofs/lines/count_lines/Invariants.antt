use Rattle.std.proofs.Common.{◌≡◌, ◌+◌, length}
use Rattle.rvd_script.specs.Lines.{lines_of}
use Rattle.rvd_script.proofs.lines.count_lines.Given as goal

-- the lines so far, with those that are left
abbrev pub invariant-loop-lines : goal.invariant-loop-lines
invariant-loop-lines l = l.count + length l.lines ≡ length (lines_of l.bytes)

abbrev pub decreases-loop-lines : goal.decreases-loop-lines
decreases-loop-lines l = length l.lines
