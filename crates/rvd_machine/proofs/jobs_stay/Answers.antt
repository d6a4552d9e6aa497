use Rattle.rvd_machine.proofs.Keeping.{job_is_given_all, jobs_stay_all}
use Rattle.rvd_machine.proofs.jobs_stay.Goals as goal

pub returns-clause-given : goal.returns-clause-given
returns-clause-given c = job_is_given_all c.journals_are_bounded.ensures

pub returns-clause-stay : goal.returns-clause-stay
returns-clause-stay c = jobs_stay_all c.journals_are_bounded.ensures
