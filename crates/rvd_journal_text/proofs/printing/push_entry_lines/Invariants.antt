use Rattle.std.proofs.Common.{◌≡◌, ◌++◌, take}
use Rattle.std.specs.List.{enumerate_from}
use Rattle.rvd_journal_text.specs.Lines.{entry_lines}
use Rattle.rvd_journal_text.proofs.printing.push_entry_lines.Given as goal

-- the lines of the entries so far
abbrev pub invariant-loop-index : goal.invariant-loop-index
invariant-loop-index l = l.out.items ≡ l.fn.out.items ++ entry_lines l.names (take l.index (enumerate_from 1 l.entries))
