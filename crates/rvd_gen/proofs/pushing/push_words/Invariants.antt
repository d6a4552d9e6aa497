use Rattle.std.proofs.Common.{◌≡◌, ◌++◌, take}
use Rattle.rvd_gen.specs.Bytes.{words}
use Rattle.rvd_gen.proofs.pushing.push_words.Given as goal

-- the bytes of the numbers so far
abbrev pub invariant-loop-word : goal.invariant-loop-word
invariant-loop-word l = l.out.items ≡ l.fn.out.items ++ words (take l.word-index l.values)
