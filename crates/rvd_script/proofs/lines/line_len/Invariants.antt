use Rattle.std.proofs.Common.{◌≡◌, ◌+◌, drop}
use Rattle.rvd_script.specs.Lines.{line_len}
use Rattle.rvd_script.proofs.lines.line_len.Given as goal

-- the bytes so far, with those that are left
abbrev pub invariant-loop-i : goal.invariant-loop-i
invariant-loop-i l = l.i + line_len (drop l.i l.rest) ≡ line_len l.rest
