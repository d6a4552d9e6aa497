use Rattle.std.proofs.Common.{◌≡◌, ◌++◌, take}
use Rattle.rvd_gen.specs.Bytes.{halves}
use Rattle.rvd_gen.proofs.pushing.push_halves.Given as goal

-- the bytes of the numbers so far
abbrev pub invariant-loop-half : goal.invariant-loop-half
invariant-loop-half l = l.out.items ≡ l.fn.out.items ++ halves (take l.half-index l.values)
