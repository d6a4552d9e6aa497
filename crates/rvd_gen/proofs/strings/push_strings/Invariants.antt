use Rattle.std.proofs.Common.{◌≡◌, ◌++◌}
use Rattle.rvd_gen.specs.Strings.{strings}
use Rattle.rvd_gen.proofs.strings.push_strings.Given as goal

-- the strings so far
abbrev pub invariant-loop-i : goal.invariant-loop-i
invariant-loop-i l = l.out.items ≡ l.fn.out.items ++ strings l.i
