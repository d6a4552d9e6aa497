-- The entry of the ticket goes.
use Rattle.std.proofs.Common.{◌≡◌, ◌∙◌, ap}
use Rattle.rvd_queue.specs.Jobs.{jobs_in, without_ticket}
use Rattle.rvd_queue.proofs.JobLists.{dropped_is}
use Rattle.rvd_queue.proofs.taken.Taken.drop_ticket.Goals as goal

pub returns : goal.returns
returns g c = ap jobs_in c.shift_remove.ensures.entries ∙ dropped_is c.args.ticket c.self.inside.jobs.entries c.self.invariant ∙ ap (without_ticket c.args.ticket) c.self.view_is
