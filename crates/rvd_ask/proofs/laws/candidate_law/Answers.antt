use Rattle.rvd_ask.proofs.Candidates.{body_candidates, flow_candidates, funcs_candidates, refs_candidates, strings_candidates}
use Rattle.rvd_ask.proofs.laws.candidate_law.Goals as goal

pub returns-clause-flow : goal.returns-clause-flow
returns-clause-flow c = flow_candidates

pub returns-clause-refs : goal.returns-clause-refs
returns-clause-refs c = refs_candidates

pub returns-clause-funcs : goal.returns-clause-funcs
returns-clause-funcs c = funcs_candidates

pub returns-clause-body : goal.returns-clause-body
returns-clause-body c = body_candidates

pub returns-clause-strings : goal.returns-clause-strings
returns-clause-strings c = strings_candidates
