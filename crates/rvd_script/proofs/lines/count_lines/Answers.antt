use Rattle.std.proofs.Common.{arith}
use Rattle.rvd_script.proofs.LineLemmas.{length-lines_of-le}
use Rattle.rvd_script.proofs.lines.count_lines.Goals as goal

pub overflow_add-count : goal.overflow_add-count
overflow_add-count c = let le = length-lines_of-le c.args.bytes.now in omega (arith, c.loop-lines.invariant)
