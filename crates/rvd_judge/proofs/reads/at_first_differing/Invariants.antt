use Rattle.std.proofs.Common.{drop}
use Rattle.std.specs.Prelude.{Option}
use Rattle.rvd_ask.specs.declared.answers.Answer.{Answer}
use Rattle.rvd_ask.specs.declared.asks.Ask.{Ask}
use Rattle.rvd_machine.specs.Exact.{IsFirstDiffering}
use Rattle.rvd_judge.proofs.reads.at_first_differing.Given as goal

-- what differs first among the reads that are left differs first among all
abbrev pub invariant-loop-ask : goal.invariant-loop-ask
invariant-loop-ask l = (found : Option (Ask × Answer)) → IsFirstDiffering l.work (drop l.ask-index l.reads) found → IsFirstDiffering l.work l.reads found
