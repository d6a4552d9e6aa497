-- A look-up by the ticket.
use Rattle.std.proofs.Common.{◌≡◌, ◌∙◌, sym, ap, Some, None}
use Rattle.rvd_queue.specs.Jobs.{found}
use Rattle.rvd_queue.proofs.JobLists.{found_is}
use Rattle.rvd_queue.proofs.taken.Taken.find.Goals as goal

pub returns-in_err-items : goal.returns-in_err-items
returns-in_err-items g c = rw c.from_residual.ensures (c.in_err-items.ensures.value ∙ found_is c.args.ticket c.self.inside.jobs.entries ∙ ap (found c.args.ticket) c.self.view_is)

pub returns : goal.returns
returns g c = c.in_ok-items.ensures.value ∙ found_is c.args.ticket c.self.inside.jobs.entries ∙ ap (found c.args.ticket) c.self.view_is
