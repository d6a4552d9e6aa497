use Rattle.std.proofs.Common.{◌≡◌, ◌++◌}
use Rattle.std.specs.List.{flat_map, range_with_len}
use Rattle.rvd_gen.specs.Code.{function_bytes}
use Rattle.rvd_gen.proofs.code.push_code.Given as goal

-- the code of the functions so far
abbrev pub invariant-loop-i : goal.invariant-loop-i
invariant-loop-i l = l.out.items ≡ l.fn.out.items ++ flat_map (function_bytes l.n) (range_with_len 0 l.i)
