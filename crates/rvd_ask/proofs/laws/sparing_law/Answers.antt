use Rattle.rvd_ask.proofs.Sparing.{body_spares, flow_spares, funcs_spares, refs_spares, strings_spares}
use Rattle.rvd_ask.proofs.laws.sparing_law.Goals as goal

pub returns-clause-flow : goal.returns-clause-flow
returns-clause-flow c = flow_spares

pub returns-clause-refs : goal.returns-clause-refs
returns-clause-refs c = refs_spares

pub returns-clause-funcs : goal.returns-clause-funcs
returns-clause-funcs c = funcs_spares

pub returns-clause-body : goal.returns-clause-body
returns-clause-body c = body_spares

pub returns-clause-strings : goal.returns-clause-strings
returns-clause-strings c = strings_spares
