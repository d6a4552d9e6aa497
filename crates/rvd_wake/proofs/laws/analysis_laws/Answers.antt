use Rattle.rvd_ask.specs.Fitting.{FittingLaw}
use Rattle.rvd_ask.specs.Rules.{SparingLaw}
use Rattle.rvd_ask.specs.Wake.{CandidateLaw, WakeLaw}
use Rattle.rvd_wake.proofs.Together.{analysis, every}
use Rattle.rvd_wake.proofs.laws.analysis_laws.Goals as goal

pub returns : goal.returns
returns c =
    let candidate = c.candidate_law.ensures in
    let sparing = c.sparing_law.ensures in
    analysis c.listing_law.ensures
    (every CandidateLaw candidate.flow candidate.refs candidate.funcs candidate.body candidate.strings)
    (every WakeLaw c.wake_law.ensures c.wake_law-2.ensures c.funcs_wake_law.ensures c.body_wake_law.ensures c.wake_law-3.ensures)
    (every FittingLaw c.flow_fit.ensures c.refs_fit.ensures c.funcs_fit.ensures c.body_fit.ensures c.strings_fit.ensures)
    (every SparingLaw sparing.flow sparing.refs sparing.funcs sparing.body sparing.strings)
    c.body_settled.ensures
