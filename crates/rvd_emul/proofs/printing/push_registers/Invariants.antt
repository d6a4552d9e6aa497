use Rattle.std.proofs.Common.{◌≡◌, ◌++◌, take}
use Rattle.rvd_emul.specs.Text.{register_lines}
use Rattle.rvd_emul.proofs.printing.push_registers.Given as goal

-- the lines of the registers so far
abbrev pub invariant-loop-number : goal.invariant-loop-number
invariant-loop-number l = l.out.items ≡ l.fn.out.items ++ register_lines 0 (take l.number l.regs)
