-- What stays while a legal journal goes on. Use `JobIsGiven` and `JobsStay` for the jobs that takes gave, `FinishStays` for the
-- end of the workers' work, and `StepsStay` for the steps that were noted.
use Rattle.std.specs.Prelude.{◌≡◌, ℕ, ◌<◌, ◌≤◌, true, List, [], ◌∷◌, ◌++◌, Some, None, ◌⊎◌}
use Rattle.rvd_ask.specs.declared.asks.Item.{Item}
use Rattle.rvd_event.specs.declared.events.Event.TheVariants as event
use Rattle.rvd_event.specs.declared.replies.Reply.TheVariants as reply
use Rattle.rvd_event.specs.declared.steps.Step.{Step}
use Rattle.rvd_journal.specs.declared.entries.Entry.{Entry}
use Rattle.rvd_machine.specs.State.{Job, State, job_of, work}
use Rattle.rvd_machine.specs.Replies.{is_finished}
use Rattle.rvd_machine.specs.Steps.{Head, IsLegal, state}

-- a job that was given is among the taken
pub record IsGiven (s : State) (job : Job) : Type 0 where
  pub there : job_of job.ticket s.taken ≡ Some job
  pub given : job.ticket < s.next_ticket

-- behind a take its job is there, with the working program that it was taken on
abbrev pub JobIsGiven : Type 0
JobIsGiven =
    (h : Head) (J : List Entry) (e : Entry) (n ticket : ℕ) (items : List Item) → IsLegal h (J ++ e ∷ []) → e.event ≡ event.Take n → e.reply ≡ reply.Job ticket items
    → IsGiven (state h (J ++ e ∷ [])) (record { ticket = ticket; items = items; program = work (state h J) })

-- each ticket that was given has the job that it had, or none
pub record KeepsJobs (s t : State) : Type 0 where
  pub tickets : s.next_ticket ≤ t.next_ticket
  pub jobs : (k : ℕ) → k < s.next_ticket → (job_of k t.taken ≡ None) ⊎ (job_of k t.taken ≡ job_of k s.taken)

abbrev pub JobsStay : Type 0
JobsStay = (h : Head) (J K : List Entry) → IsLegal h (J ++ K) → KeepsJobs (state h J) (state h (J ++ K))

-- where all sessions are closed and nothing is left to do, it stays so
abbrev pub FinishStays : Type 0
FinishStays = (h : Head) (J K : List Entry) → IsLegal h (J ++ K) → is_finished (state h J) ≡ true → is_finished (state h (J ++ K)) ≡ true

-- the steps that were noted stay, and more may follow them
pub record KeepsSteps (s t : State) : Type 0 where
  pub more : List Step
  pub grown : t.steps ≡ s.steps ++ more

abbrev pub StepsStay : Type 0
StepsStay = (h : Head) (J K : List Entry) → KeepsSteps (state h J) (state h (J ++ K))
