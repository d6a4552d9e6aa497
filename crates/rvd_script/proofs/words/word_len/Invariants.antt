use Rattle.std.proofs.Common.{◌≡◌, ◌+◌, drop}
use Rattle.rvd_script.specs.Words.{word_len}
use Rattle.rvd_script.specs.declared.words.Place.TheVariants.{Gap}
use Rattle.rvd_script.proofs.words.word_len.Given as goal

-- the bytes so far, with those of the rest of the word
abbrev pub invariant-loop-i : goal.invariant-loop-i
invariant-loop-i l = l.i + word_len l.place (drop l.i l.rest) ≡ word_len Gap l.rest
