use Rattle.std.proofs.Common.{ap, ◌∙◌}
use Rattle.rvd_script.specs.Words.{is_empty}
use Rattle.rvd_script.proofs.WordLemmas.{tests_empty}
use Rattle.rvd_script.proofs.words.Words.is_empty.Goals as goal

pub returns : goal.returns
returns c =
    let rest = c.behind_gap.result.now in
    rw c.word_len.ensures.value (tests_empty rest c.behind_gap.ensures.begins ∙ ap is_empty (c.behind_gap.ensures.words ∙ c.self.view_is))
