use Rattle.std.proofs.Common.{◌≡◌, ◌+◌, drop}
use Rattle.rvd_script.specs.Words.{gap_len}
use Rattle.rvd_script.proofs.words.gap_len.Given as goal

-- the spaces so far, with those that are left
abbrev pub invariant-loop-i : goal.invariant-loop-i
invariant-loop-i l = l.i + gap_len (drop l.i l.rest) ≡ gap_len l.rest
