-- A new ticket goes last.
use Rattle.std.proofs.Common.{◌≡◌, ◌∙◌, ◌++◌, ◌∷◌, [], sym, ap, List, false}
use Rattle.rvd_queue.specs.Jobs.{Job, has_ticket, entry_job, jobs_in}
use Rattle.rvd_queue.proofs.JobLists.{put_is}
use Rattle.rvd_queue.proofs.taken.Taken.put.Goals as goal

pub returns-clause-ok : goal.returns-clause-ok
returns-clause-ok g c = ap jobs_in c.in_ok-insert.ensures.entries ∙ put_is c.args.ticket (c.args.items, c.args.program) c.self.inside.jobs.entries (ap (has_ticket c.args.ticket) c.self.view_is ∙ c.requires) ∙ ap (λ jobs. jobs ++ entry_job (c.args.ticket, (c.args.items, c.args.program)) ∷ []) c.self.view_is
