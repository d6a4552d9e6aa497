use Rattle.rvd_journal_reading.proofs.RefusalsBack.{refusal_law}
use Rattle.rvd_journal_reading.proofs.VerdictsBack.{verdict_law}
use Rattle.rvd_journal_reading.proofs.laws.reading_law.Goals as goal

pub returns-clause-verdicts : goal.returns-clause-verdicts
returns-clause-verdicts c = verdict_law

pub returns-clause-refusals : goal.returns-clause-refusals
returns-clause-refusals c = refusal_law
