use Rattle.std.proofs.Common.{sym, ◌∙◌, arith}
use Rattle.rvd_script.proofs.WordLemmas.{first_word}
use Rattle.rvd_script.proofs.words.Words.word.Goals as goal

pub returns : goal.returns
returns c =
    let rest = c.behind_gap-rest.result.now in
    sym c.self.view_is ∙ sym c.behind_gap-rest.ensures.words ∙ rw c.word_len-len.ensures.value (first_word rest (omega arith))
