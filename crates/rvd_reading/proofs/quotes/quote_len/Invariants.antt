use Rattle.std.proofs.Common.{◌≡◌, ◌+◌, false, drop}
use Rattle.rvd_reading.specs.Quotes.{quote_len}
use Rattle.rvd_reading.proofs.quotes.quote_len.Given as goal

-- the bytes so far, with those that are left
abbrev pub invariant-loop-i : goal.invariant-loop-i
invariant-loop-i l = l.i + quote_len l.escaped (drop l.i l.bytes) ≡ quote_len false l.bytes
