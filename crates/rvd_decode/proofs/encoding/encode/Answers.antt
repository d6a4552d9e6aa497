use Rattle.std.proofs.Common.{rules, ◌≡◌, ◌+◌, ◌*◌, ◌%◌, ap, subst, ◌∙◌}
use Rattle.rvd_decode.specs.Encoding.{encoding}
use Rattle.rvd_decode.specs.Table.{instruction, IsInstruction}
use Rattle.rvd_decode.proofs.RoundTrip.{decoded}
use Rattle.rvd_decode.proofs.encoding.encode.Goals as goal

pub returns-clause-decodes : goal.returns-clause-decodes
returns-clause-decodes c =
    let word : c.row_of-row.result.matching + (c.from.result * 128 % 4294967296 + c.from-2.result * 32768 % 4294967296 + c.from-3.result * 1048576 % 4294967296 + c.placed.result) ≡ encoding c.args.insn.now = search rules in
    ap instruction word ∙ decoded c.args.insn.now (subst IsInstruction c.insn.view_is c.insn.invariant)
