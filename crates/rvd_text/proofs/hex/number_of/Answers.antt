use Rattle.std.proofs.Common.{arith}
use Rattle.rvd_text.proofs.Digits.{room}
use Rattle.rvd_text.proofs.hex.number_of.Goals as goal

pub overflow_mul-number : goal.overflow_mul-number
overflow_mul-number c = omega (arith, room c.loop-digit.digit-index c.loop-digit.number 0 (omega arith) c.loop-digit.invariant.small (omega arith))

pub overflow_add-number : goal.overflow_add-number
overflow_add-number c = omega (arith, room c.loop-digit.digit-index c.loop-digit.number c.value_of.result (omega arith) c.loop-digit.invariant.small c.value_of.ensures.small)
