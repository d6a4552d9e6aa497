use Rattle.std.proofs.Common.{◌≡◌, ◌++◌, map, take}
use Rattle.rvd_decode.specs.Encoding.{encoding}
use Rattle.rvd_gen.specs.Bytes.{words}
use Rattle.rvd_gen.proofs.code.push_function.Given as goal

-- the words of the instructions so far
abbrev pub invariant-loop-insn : goal.invariant-loop-insn
invariant-loop-insn l = l.out.items ≡ l.fn.out.items ++ words (map encoding (take l.insn-index l.insn-items))
