-- Jobs that are taken, in order of taking. Use `job_of` for a ticket's job and `found` for what it has, `has_ticket` for
-- whether there is one, and `without_ticket` for the others.
use Rattle.std.specs.Prelude.{ℕ, Bool, not, ◌==◌, List, Option, filter, find, map, slice_get}
use Rattle.std.specs.List.{list_any}
use Rattle.std.specs.Option.{option_map}
use Rattle.rvd_ask.specs.declared.asks.Item.{Item}

-- a job: its ticket, its items, and the program that they were taken with
pub record Job (P : Type 0) : Type 0 where
  pub ticket : ℕ
  pub items : List Item
  pub program : P

module _ {P : Type 0} where
  -- whether a job has a ticket
  abbrev pub is_of : ℕ → Job P → Bool
  is_of ticket job = ticket == job.ticket

  -- whether one of some jobs has a ticket
  abbrev pub has_ticket : ℕ → List (Job P) → Bool
  has_ticket ticket jobs = list_any (is_of ticket) jobs

  -- the job of a ticket
  abbrev pub job_of : ℕ → List (Job P) → Option (Job P)
  job_of ticket jobs = find (is_of ticket) jobs

  -- its items and its program
  abbrev pub found : ℕ → List (Job P) → Option (List Item × P)
  found ticket jobs = option_map (λ (job : Job P). (job.items, job.program)) (job_of ticket jobs)

  -- the ticket, the items and the program at a place
  abbrev pub shown_at : ℕ → List (Job P) → Option (ℕ × List Item × P)
  shown_at place jobs = option_map (λ (job : Job P). (job.ticket, job.items, job.program)) (slice_get jobs place)

  -- the jobs of the other tickets, in their order
  abbrev pub without_ticket : ℕ → List (Job P) → List (Job P)
  without_ticket ticket jobs = filter (λ job. not (is_of ticket job)) jobs

  -- a job that is kept under its ticket
  abbrev pub entry_job : ℕ × (List Item × P) → Job P
  entry_job e = record { ticket = e.0; items = e.1.0; program = e.1.1 }

  abbrev pub jobs_in : List (ℕ × (List Item × P)) → List (Job P)
  jobs_in entries = map entry_job entries
