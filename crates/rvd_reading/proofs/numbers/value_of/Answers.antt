use Rattle.rvd_text.proofs.Decimals.{too_large}
use Rattle.rvd_reading.proofs.numbers.value_of.Goals as goal

pub returns-in-None : goal.returns-in-None
returns-in-None c = too_large c.args.digits.now c.loop-digit.digit-index c.loop-digit.number c.loop-digit-test.true c.loop-digit.invariant c.in-None.ensures
