use Rattle.std.proofs.Common.{map, string_bytes, sym, ◌∙◌}
use Rattle.rvd_top.specs.Answers.{answer_of}
use Rattle.rvd_top.proofs.RunLemmas.{runs}
use Rattle.rvd_top.proofs.runs.run_plain.Goals as goal

pub returns-in-Some : goal.returns-in-Some
returns-in-Some g c =
    runs g.C.Cabinet.held g.C.Cabinet.faults g.C.Cabinet.fetched c.in-Some.command _ _ _ g.K.Sink.contents g.K.Sink.faults _ _ (answer_of c.answered.result) c.put_answer.result
    (sym c.command_of.ensures ∙ c.in-Some.is) c.answered.ensures c.put_answer.ensures.ends c.put_answer.ensures.sink c.put_answer.ensures.write
