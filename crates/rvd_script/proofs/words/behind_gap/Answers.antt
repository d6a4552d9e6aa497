use Rattle.std.proofs.lemmas.List.{take_rest}
use Rattle.rvd_script.proofs.WordLemmas.{words-behind_gap, begins-behind_gap}
use Rattle.rvd_script.proofs.words.behind_gap.Goals as goal

pub returns-clause-words : goal.returns-clause-words
returns-clause-words c = rw (take_rest, c.gap_len.ensures.value) (words-behind_gap c.args.rest.now)

pub returns-clause-begins : goal.returns-clause-begins
returns-clause-begins c = rw (take_rest, c.gap_len.ensures.value) (begins-behind_gap c.args.rest.now)
