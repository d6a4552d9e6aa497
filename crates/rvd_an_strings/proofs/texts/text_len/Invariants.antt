use Rattle.std.proofs.Common.{◌≡◌, ◌++◌, ◌+◌, drop, take}
use Rattle.rvd_ask.specs.Answers.{told}
use Rattle.rvd_ask.specs.Strings.{tail}
use Rattle.rvd_an_strings.proofs.TextBytes.{listed_asks, text_before, whole}
use Rattle.rvd_an_strings.proofs.texts.text_len.Given as goal

-- what is left to ask of the bytes that are left, and the text's length by them: the bytes before are text
abbrev pub invariant-loop-offset : goal.invariant-loop-offset
invariant-loop-offset g l =
    let P = g.V.View.program l.view in
    let xs = take 256 (tail P l.at) in
    record {
      reads : l.reads.items ++ told P (listed_asks (l.at + l.offset) (drop l.offset xs)) ≡ l.fn.reads.items ++ told P (listed_asks l.at xs);
      len : whole l.offset (drop l.offset xs) ≡ text_before xs;
    }
