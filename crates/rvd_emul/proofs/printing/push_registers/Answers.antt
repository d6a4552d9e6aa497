use Rattle.std.proofs.Common.{refl, subst, take, OnErr, Ok, Err}
use Rattle.rvd_notation.specs.Pieces.{Keeps}
use Rattle.rvd_notation.proofs.Kept.{Keeps-front}
use Rattle.rvd_emul.specs.Text.{register_lines}
use Rattle.rvd_emul.proofs.RegisterLines.{more_lines}
use Rattle.rvd_emul.proofs.printing.push_registers.Goals as goal

pub returns-in_err-push_register-clause-err : goal.returns-in_err-push_register-clause-err
returns-in_err-push_register-clause-err c =
    let kept = subst (λ old. Keeps old c.push_register.new.out.items) c.loop-number.invariant c.in_err-push_register.ensures.err in
    let front = Keeps-front c.args.out.now.items (register_lines 0 (take c.loop-number.number c.args.regs.now)) c.push_register.new.out.items kept in
    elim c.from_residual.result as (λ r. OnErr r (Keeps c.args.out.now.items c.push_register.new.out.items)) [ Ok _ ↦ tt | Err _ ↦ front ]

pub loop-number-preserved : goal.loop-number-preserved
loop-number-preserved c =
    more_lines c.args.out.now.items c.loop-number.out.items c.push_register.new.out.items c.loop-number.number _ c.args.regs.now c.loop-number-test.true refl c.loop-number.invariant c.in_ok-push_register.ensures.ok
