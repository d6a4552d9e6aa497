use Rattle.std.proofs.Common.{◌≡◌, drop}
use Rattle.std.specs.Str.Parse.{digits_value, digits_value_after}
use Rattle.rvd_reading.proofs.numbers.value_of.Given as goal

-- the number so far, with the digits that are left, is the number of them all
abbrev pub invariant-loop-digit : goal.invariant-loop-digit
invariant-loop-digit l = digits_value_after 10 l.number (drop l.digit-index l.digits) ≡ digits_value 10 l.digits
