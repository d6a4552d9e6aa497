use Rattle.rvd_ask.specs.Rules.{rule}
use Rattle.rvd_judge.proofs.Legal.{led_fit}
use Rattle.rvd_judge.proofs.checking.proposal_on.Goals as goal

pub returns-in_err-proposal-clause-fits : goal.returns-in_err-proposal-clause-fits
returns-in_err-proposal-clause-fits c = led_fit c.args.work.now (rule c.args.work.now c.args.item) (c.analysis_laws.ensures.fits c.args.work.now c.args.item c.entries.ensures.valid)

pub returns-clause-fits : goal.returns-clause-fits
returns-clause-fits c = led_fit c.args.work.now (rule c.args.work.now c.args.item) (c.analysis_laws.ensures.fits c.args.work.now c.args.item c.entries.ensures.valid)
