-- The jobs that are taken: their tickets rise, and each has few items. Use `jobs-push`, `jobs-others` and `jobs-none`,
-- and `job_here` for the job of the next ticket.
use Rattle.std.proofs.Common.{◌≡◌, ℕ, ◌+◌, ◌≤◌, ◌==◌, List, [], ◌∷◌, ◌++◌, length, ◌∙◌, arith}
use Rattle.std.specs.Prelude.{Some, None}
use Rattle.std.proofs.lemmas.Bool.{cond_both, cond-true, cond-false, eq-eqb, ne_eqb}
use Rattle.rvd_machine.specs.State.{Job, job_of, other_jobs}
use Rattle.rvd_machine.specs.Steps.{AreJobs}

pub jobs-none : (from next : ℕ) (jobs : List Job) → AreJobs from next jobs → from ≤ next
jobs-none from next [] h = h
jobs-none from next (job ∷ jobs) h = let rest = jobs-none (job.ticket + 1) next jobs h.2 in omega (arith, h.0, rest)

pub jobs-lower : (low from next : ℕ) (jobs : List Job) → low ≤ from → AreJobs from next jobs → AreJobs low next jobs
jobs-lower low from next [] le h = omega (arith, le, h)
jobs-lower low from next (job ∷ jobs) le h = (omega (arith, le, h.0), h.1, h.2)

-- a job more, with the next ticket
pub jobs-push : (from : ℕ) (jobs : List Job) (job : Job) → AreJobs from job.ticket jobs → length job.items ≤ 64 → AreJobs from (job.ticket + 1) (jobs ++ job ∷ [])
jobs-push from [] job h few = (h, few, omega arith)
jobs-push from (j ∷ jobs) job h few = (h.0, h.1, jobs-push (j.ticket + 1) jobs job h.2 few)

-- a job less
pub jobs-others : (ticket from next : ℕ) (jobs : List Job) → AreJobs from next jobs → AreJobs from next (other_jobs ticket jobs)
jobs-others ticket from next [] h = h
jobs-others ticket from next (job ∷ jobs) h = cond_both (job.ticket == ticket) jobs (job ∷ other_jobs ticket jobs) (AreJobs from next)
    (λ _. jobs-lower from (job.ticket + 1) next jobs (omega (arith, h.0)) h.2)
    (λ _. (h.0, h.1, jobs-others ticket (job.ticket + 1) next jobs h.2))

-- the job of the next ticket, once it is there
pub job_here : (ticket : ℕ) (jobs : List Job) (job : Job) (from : ℕ) → AreJobs from ticket jobs → job.ticket ≡ ticket → job_of ticket (jobs ++ job ∷ []) ≡ Some job
job_here ticket [] job from are is = cond-true (job.ticket == ticket) (Some job) None (eq-eqb job.ticket ticket is)
job_here ticket (j ∷ jobs) job from are is =
    let above = jobs-none (j.ticket + 1) ticket jobs are.2 in
    let other : j.ticket ≡ ticket → ⊥ = λ same. absurd (omega (arith, above, same)) in
    cond-false (j.ticket == ticket) (Some j) (job_of ticket (jobs ++ job ∷ [])) (ne_eqb j.ticket ticket other)
    ∙ job_here ticket jobs job (j.ticket + 1) are.2 is
