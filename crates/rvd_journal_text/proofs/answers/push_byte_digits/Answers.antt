use Rattle.std.proofs.Common.{subst, take, OnErr, Ok, Err, flat_map}
use Rattle.rvd_notation.specs.Pieces.{Keeps}
use Rattle.rvd_notation.proofs.Kept.{Keeps-front}
use Rattle.rvd_notation.specs.Words.{hex2}
use Rattle.rvd_journal_text.proofs.answers.push_byte_digits.Goals as goal

pub returns-in_err-push_hex2-clause-err : goal.returns-in_err-push_hex2-clause-err
returns-in_err-push_hex2-clause-err c =
    let kept = subst (λ old. Keeps old c.push_hex2.new.out.items) c.loop-byte.invariant c.in_err-push_hex2.ensures.err in
    let front = Keeps-front c.args.out.now.items (flat_map hex2 (take c.loop-byte.byte-index c.args.bytes.now)) c.push_hex2.new.out.items kept in
    elim c.from_residual.result as (λ r. OnErr r (Keeps c.args.out.now.items c.push_hex2.new.out.items)) [ Ok _ ↦ tt | Err _ ↦ front ]
