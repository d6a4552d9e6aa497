use Rattle.std.proofs.Common.{◌≡◌, ◌+◌, ◌*◌, Some, refl, sym, ◌∙◌, arith}
use Rattle.rvd_emul.specs.Machine.{around}
use Rattle.rvd_emul.proofs.Blocks.{byte-along}
use Rattle.rvd_emul.proofs.reading.memory_word.Goals as goal

pub returns : goal.returns
returns c =
    let S = c.args.program.now in
    let found : around S c.args.at ≡ Some (c.unwrap-start.result.0, c.unwrap-start.result.1.now) = sym (rw c.unwrap-start.ensures at c.around.ensures.value) in
    let along = byte-along S (c.around.ensures.valid (rw c.unwrap-start.ensures refl)) c.args.stored.now c.args.at 4 c.unwrap-start.result.0 c.unwrap-start.result.1.now found c.requires in
    let first = along c.args.at c.byte_in-first.result (omega arith) (omega arith) c.byte_in-first.ensures in
    let second = along (c.args.at + 1) c.byte_in-second.result (omega arith) (omega arith) c.byte_in-second.ensures in
    let third = along (c.args.at + 2) c.byte_in-third.result (omega arith) (omega arith) c.byte_in-third.ensures in
    let fourth = along (c.args.at + 3) c.byte_in-fourth.result (omega arith) (omega arith) c.byte_in-fourth.ensures in
    c.from_le_bytes.ensures ∙ (λ i. first i + second i * 256 + third i * 65536 + fourth i * 16777216)
