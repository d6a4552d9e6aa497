use Rattle.std.proofs.Common.{◌≡◌, ◌<◌, ◌^◌, drop}
use Rattle.std.specs.Str.Parse.{digits_value, digits_value_after}
use Rattle.rvd_text.proofs.hex.number_of.Given as goal

-- the number so far, with the digits that are left, is the number of them all
abbrev pub invariant-loop-digit : goal.invariant-loop-digit
invariant-loop-digit l = record {
  small : l.number < 16 ^ l.digit-index;
  whole : digits_value_after 16 l.number (drop l.digit-index l.digits) ≡ digits_value 16 l.digits;
}
