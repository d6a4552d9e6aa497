-- The jobs that are taken, in the machine and as the state has them. Use `found_is` for a look-up, `job_is` for the job itself,
-- `is_fresh` for the next ticket, `dropped_is` for one that goes, and `has_few` for a job's items.
use Rattle.std.proofs.Common.{◌≡◌, ℕ, ◌+◌, ◌<◌, ◌≤◌, Bool, true, false, cond, not, ◌==◌, List, [], ◌∷◌, length, find, Option, Some, None, refl, sym, ap, ◌∙◌, subst, arith}
use Rattle.std.specs.Option.{option_map}
use Rattle.std.proofs.lemmas.Bool.{eq-eqb, eqb-true, ne_eqb, or_from, true≢false}
use Rattle.std.proofs.lemmas.Option.{none-some, same_Some}
use Rattle.rvd_fact.specs.Program.{Program}
use Rattle.rvd_ask.specs.declared.asks.Item.{Item}
use Rattle.rvd_queue.specs.Jobs.{Job as TakenJob, is_of, has_ticket, found, without_ticket}
use Rattle.rvd_queue.specs.Jobs as queue
use Rattle.rvd_machine.specs.State.{Job, job_of, other_jobs}
use Rattle.rvd_machine.specs.Steps.{AreJobs}
use Rattle.rvd_engine.specs.Inside.{job_in, jobs_in}
use Rattle.rvd_engine.specs.Offered.{of_job, shown}

-- either way round
same_test : (a b : ℕ) → (a == b) ≡ (b == a)
same_test a b = by (b == a) refl
  where
    by : (t : Bool) → (b == a) ≡ t → (a == b) ≡ t
    by true is = eq-eqb a b (sym (eqb-true b a is))
    by false is = ne_eqb a b (λ same. true≢false (sym (eq-eqb b a (sym same)) ∙ is))

pub job_is : (ticket : ℕ) (jobs : List (TakenJob Program)) → job_of ticket (jobs_in jobs) ≡ option_map job_in (queue.job_of ticket jobs)
job_is ticket [] = refl
job_is ticket (job ∷ jobs) =
    ap (λ (b : Bool). cond b (Some (job_in job)) (job_of ticket (jobs_in jobs))) (same_test job.ticket ticket)
    ∙ elim (ticket == job.ticket) as (λ b. cond b (Some (job_in job)) (job_of ticket (jobs_in jobs)) ≡ option_map job_in (cond b (Some job) (find (is_of ticket) jobs))) [
      | true ↦ refl
      | false ↦ job_is ticket jobs
    ]

abbrev of_taken : TakenJob Program → List Item × Program
of_taken job = (job.items, job.program)

mapped : (o : Option (TakenJob Program)) → option_map of_taken o ≡ option_map of_job (option_map job_in o)
mapped None = refl
mapped (Some job) = refl

pub found_is : (ticket : ℕ) (jobs : List (TakenJob Program)) → found ticket jobs ≡ shown ticket (jobs_in jobs)
found_is ticket jobs = mapped (queue.job_of ticket jobs) ∙ sym (ap (option_map of_job) (job_is ticket jobs))

-- a ticket that comes after all has no job
pub is_fresh : (from next ticket : ℕ) (jobs : List (TakenJob Program)) → AreJobs from next (jobs_in jobs) → next ≤ ticket → has_ticket ticket jobs ≡ false
is_fresh from next ticket [] h le = refl
is_fresh from next ticket (job ∷ jobs) h le =
    or_from (ticket == job.ticket) (has_ticket ticket jobs)
    (ne_eqb ticket job.ticket (λ same. let below = before (job.ticket + 1) jobs h.2 in absurd (omega (arith, same, below, le))))
    (is_fresh (job.ticket + 1) next ticket jobs h.2 le)
  where
    before : (low : ℕ) (rest : List (TakenJob Program)) → AreJobs low next (jobs_in rest) → low ≤ next
    before low [] k = k
    before low (j ∷ rest) k = let more = before (j.ticket + 1) rest k.2 in omega (arith, k.0, more)

-- the jobs behind a ticket are of other tickets
later : (ticket from next : ℕ) (jobs : List (TakenJob Program)) → ticket < from → AreJobs from next (jobs_in jobs) → without_ticket ticket jobs ≡ jobs
later ticket from next [] lt h = refl
later ticket from next (job ∷ jobs) lt h =
    let other : (ticket == job.ticket) ≡ false = ne_eqb ticket job.ticket (λ same. absurd (omega (arith, same, lt, h.0))) in
    ap (λ (b : Bool). cond (not b) (job ∷ without_ticket ticket jobs) (without_ticket ticket jobs)) other
    ∙ ap (λ (xs : List (TakenJob Program)). job ∷ xs) (later ticket (job.ticket + 1) next jobs (omega (arith, lt, h.0)) h.2)

pub dropped_is : (ticket from next : ℕ) (jobs : List (TakenJob Program)) → AreJobs from next (jobs_in jobs) → jobs_in (without_ticket ticket jobs) ≡ other_jobs ticket (jobs_in jobs)
dropped_is ticket from next [] h = refl
dropped_is ticket from next (job ∷ jobs) h =
    by (ticket == job.ticket) refl (dropped_is ticket (job.ticket + 1) next jobs h.2)
    ∙ ap (λ (b : Bool). cond b (jobs_in jobs) (job_in job ∷ other_jobs ticket (jobs_in jobs))) (same_test ticket job.ticket)
  where
    by : (b : Bool) → (ticket == job.ticket) ≡ b → jobs_in (without_ticket ticket jobs) ≡ other_jobs ticket (jobs_in jobs)
        → jobs_in (cond (not b) (job ∷ without_ticket ticket jobs) (without_ticket ticket jobs)) ≡ cond b (jobs_in jobs) (job_in job ∷ other_jobs ticket (jobs_in jobs))
    by true is rest = ap jobs_in (later ticket (job.ticket + 1) next jobs (let same = eqb-true ticket job.ticket is in omega (arith, same)) h.2)
    by false is rest = ap (λ (xs : List Job). job_in job ∷ xs) rest

-- what is shown of a ticket is a job's, and its items are few
pub shown_is : (o : Option Job) (items : List Item) (P : Program) → option_map of_job o ≡ Some (items, P) → (job : Job) × (o ≡ Some job) × (job.items ≡ items) × (job.program ≡ P)
shown_is None items P is = absurd (none-some (items, P) is)
shown_is (Some job) items P is =
    let both : of_job job ≡ (items, P) = same_Some (of_job job) (items, P) is in
    (job, refl, ap (λ (p : List Item × Program). p.0) both, ap (λ (p : List Item × Program). p.1) both)

pub none_shown : (o : Option Job) → option_map of_job o ≡ None → o ≡ None
none_shown None is = refl
none_shown (Some job) is = absurd (none-some (of_job job) (sym is))

few_of : (ticket from next : ℕ) (jobs : List Job) (job : Job) → AreJobs from next jobs → job_of ticket jobs ≡ Some job → length job.items ≤ 64
few_of ticket from next [] job h is = absurd (none-some job is)
few_of ticket from next (j ∷ jobs) job h is = by (j.ticket == ticket) (few_of ticket (j.ticket + 1) next jobs job h.2) is
  where
    by : (b : Bool) → (job_of ticket jobs ≡ Some job → length job.items ≤ 64) → cond b (Some j) (job_of ticket jobs) ≡ Some job → length job.items ≤ 64
    by true behind same = subst (λ (x : Job). length x.items ≤ 64) (same_Some j job same) h.1
    by false behind other = behind other

pub has_few : (ticket from next : ℕ) (jobs : List Job) (items : List Item) (P : Program) → AreJobs from next jobs → shown ticket jobs ≡ Some (items, P) → length items ≤ 64
has_few ticket from next jobs items P h is =
    let job = shown_is (job_of ticket jobs) items P is in
    subst (λ (xs : List Item). length xs ≤ 64) job.2 (few_of ticket from next jobs job.0 h job.1)
