use Rattle.std.proofs.Common.{◌≡◌, ◌+◌, ◌≤◌, true, length}
use Rattle.std.specs.List.{list_all}
use Rattle.rvd_script.specs.Files.{behind, in_order, event_line}
use Rattle.rvd_script.specs.Legal.{is_line}
use Rattle.rvd_script.proofs.reading.event_lines.Given as goal

-- the lines so far said what is in the list, and those that are left go behind it
abbrev pub invariant-loop-line : goal.invariant-loop-line
invariant-loop-line l = record {
  whole : in_order (event_line l.names) l.first l.fn.lines ≡ behind l.out.items (in_order (event_line l.names) l.number l.lines);
  legal : list_all (is_line l.names.sessions l.names.workers) l.out.items ≡ true;
  count : length l.out.items + length l.lines ≤ length l.fn.lines;
  number : l.number + length l.lines ≤ 100001;
}

abbrev pub decreases-loop-line : goal.decreases-loop-line
decreases-loop-line l = length l.lines
