use Rattle.std.proofs.Common.{◌≡◌, ◌+◌, true, drop, take}
use Rattle.std.specs.List.{list_all}
use Rattle.std.specs.Char.{is_ascii_digit}
use Rattle.rvd_reading.specs.Numbers.{digit_count}
use Rattle.rvd_reading.proofs.numbers.digit_count.Given as goal

-- the digits so far, with those that are left
abbrev pub invariant-loop-i : goal.invariant-loop-i
invariant-loop-i l = (l.i + digit_count (drop l.i l.bytes) ≡ digit_count l.bytes) × (list_all is_ascii_digit (take l.i l.bytes) ≡ true)
