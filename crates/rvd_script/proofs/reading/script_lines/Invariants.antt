use Rattle.std.proofs.Common.{◌≡◌, ◌+◌, ◌≤◌, true, length}
use Rattle.std.specs.List.{list_all}
use Rattle.rvd_script.specs.Files.{behind, in_order, script_line}
use Rattle.rvd_script.specs.Legal.{is_script_line}
use Rattle.rvd_script.specs.Lines.{lines_of}
use Rattle.rvd_script.proofs.reading.script_lines.Given as goal

-- the lines so far said what is in the list, and those that are left go behind it
abbrev pub invariant-loop-line : goal.invariant-loop-line
invariant-loop-line l = record {
  whole : in_order script_line 1 (lines_of l.bytes) ≡ behind l.out.items (in_order script_line l.number l.lines);
  legal : list_all is_script_line l.out.items ≡ true;
  count : length l.out.items + 1 ≤ l.number;
  number : l.number + length l.lines ≤ 100001;
}

abbrev pub decreases-loop-line : goal.decreases-loop-line
decreases-loop-line l = length l.lines
