use Rattle.std.proofs.Common.{◌≡◌, ◌++◌, take, flat_map}
use Rattle.rvd_notation.specs.Words.{hex2}
use Rattle.rvd_journal_text.proofs.answers.push_byte_digits.Given as goal

-- those so far
abbrev pub invariant-loop-byte : goal.invariant-loop-byte
invariant-loop-byte l = l.out.items ≡ l.fn.out.items ++ flat_map hex2 (take l.byte-index l.bytes)
