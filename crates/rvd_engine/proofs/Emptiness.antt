-- Where a queue is empty, and the Settled step that follows an offer's outcome. Use `empty-with_all` for a queue that gains
-- items, and `noted_by` for an outcome.
use Rattle.std.proofs.Common.{◌≡◌, ℕ, suc, ◌+◌, Bool, true, false, cond, ◌&&◌, ◌||◌, not, ◌==◌, List, [], ◌∷◌, ◌++◌, length, Option, Some, None, is_some, refl, sym, ap, ◌∙◌, arith}
use Rattle.std.proofs.lemmas.Bool.{false≢true, ne_eqb}
use Rattle.std.proofs.lemmas.Bool.Decides.{nat_tests}
use Rattle.std.proofs.lemmas.List.{length-append}
use Rattle.std.specs.declared.cmp.Ordering.TheVariants.{Less, Equal, Greater}
use Rattle.std.specs.Ordering.{match_ordering}
use Rattle.rvd_fact.specs.Program.{Program}
use Rattle.rvd_ask.specs.declared.asks.Item.{Item}
use Rattle.rvd_ask.specs.Order.{item_cmp}
use Rattle.rvd_event.specs.declared.steps.Step.{Step}
use Rattle.rvd_event.specs.declared.steps.Step.TheVariants as step
use Rattle.rvd_judge.specs.Batches.{is_none_in}
use Rattle.rvd_queue.specs.Sets.{with, with_all}
use Rattle.rvd_machine.specs.Moves.{analysis_text, commit, offered_in, settled_step}
use Rattle.rvd_machine.specs.State.{State, Job, Open, is_open, job_of, other_jobs}
use Rattle.rvd_machine.specs.Verdicts.{Batch}
use Rattle.rvd_engine.specs.declared.offers.Outcome.{Outcome}
use Rattle.rvd_engine.specs.Offered.{batch_of, taken_in}
use Rattle.rvd_engine.specs.Settling.{settled_if, settles_by}

-- ---- queues that gain items
not_zero : (n : ℕ) → (suc n == 0) ≡ false
not_zero n = ne_eqb (suc n) 0 (λ same. absurd (omega (arith, same)))

some-with : (i : Item) (queue : List Item) → (length (with i queue) == 0) ≡ false
some-with i [] = refl
some-with i (x ∷ queue) = elim (item_cmp i x) as (λ r. (length (match_ordering r (i ∷ x ∷ queue) (x ∷ queue) (x ∷ with i queue)) == 0) ≡ false) [
  | Less ↦ not_zero (suc (length queue))
  | Equal ↦ not_zero (length queue)
  | Greater ↦ not_zero (length (with i queue))
]

some-with_all : (items queue : List Item) → (length queue == 0) ≡ false → (length (with_all items queue) == 0) ≡ false
some-with_all [] queue some = some
some-with_all (i ∷ items) queue some = some-with_all items (with i queue) (some-with i queue)

pub empty-with_all : (items queue : List Item) → (length (with_all items queue) == 0) ≡ ((length items == 0) && (length queue == 0))
empty-with_all [] queue = refl
empty-with_all (i ∷ items) queue =
    some-with_all items (with i queue) (some-with i queue) ∙ sym (ap (λ (b : Bool). b && (length queue == 0)) (not_zero (length items)))

-- lists that make the same queue of an empty one are both empty or not
pub both_empty : (items others : List Item) → with_all items [] ≡ with_all others [] → (length items == 0) ≡ (length others == 0)
both_empty items others same =
    left_true (length items == 0)
    ∙ sym (empty-with_all items [])
    ∙ ap (λ (xs : List Item). length xs == 0) same
    ∙ empty-with_all others []
    ∙ sym (left_true (length others == 0))
  where
    left_true : (a : Bool) → a ≡ (a && true)
    left_true true = refl
    left_true false = refl

-- ---- the jobs that are left
jobs_but : (ticket : ℕ) (jobs : List Job) → is_some (job_of ticket jobs) ≡ true → suc (length (other_jobs ticket jobs)) ≡ length jobs
jobs_but ticket [] some = absurd (false≢true some)
jobs_but ticket (job ∷ jobs) some = by (job.ticket == ticket) (jobs_but ticket jobs) some
  where
    by : (b : Bool) → (is_some (job_of ticket jobs) ≡ true → suc (length (other_jobs ticket jobs)) ≡ length jobs) → is_some (cond b (Some job) (job_of ticket jobs)) ≡ true → suc (length (cond b jobs (job ∷ other_jobs ticket jobs))) ≡ suc (length jobs)
    by true behind some = refl
    by false behind some = ap suc (behind some)

one_less : (n m : ℕ) → suc n ≡ m → (n == 0) ≡ (m == 1)
one_less n m is = grind (arith, nat_tests, is)

-- ---- the Settled step that follows an outcome
pub never : (a b : Bool) → (a && (b && false)) ≡ false
never true true = refl
never true false = refl
never false b = refl

abbrev none_left : State → Outcome → Bool
none_left s o = (length o.again.items == 0 && length s.queue == 0) && length s.taken == 1

left_is : (s : State) (ticket : ℕ) (o : Outcome) → is_some (job_of ticket s.taken) ≡ true → (length (with_all o.again.items s.queue) == 0 && length (other_jobs ticket s.taken) == 0) ≡ none_left s o
left_is s ticket o taken k = empty-with_all o.again.items s.queue k && one_less (length (other_jobs ticket s.taken)) (length s.taken) (jobs_but ticket s.taken taken) k

or_false : (a : Bool) → a ≡ (a || false)
or_false true = refl
or_false false = refl

or_true : (a : Bool) → true ≡ (a || true)
or_true true = refl
or_true false = refl

noted_closed : (s : State) (a ticket : ℕ) (o : Outcome) (n : Bool) → is_some (job_of ticket s.taken) ≡ true
    → settled_step (cond (not n) (commit (record s { taken = other_jobs ticket s.taken; queue = with_all o.again.items s.queue }) o.work (step.Commit a analysis_text (length o.changes.items))) (record s { taken = other_jobs ticket s.taken; queue = with_all o.again.items s.queue; current = None }))
    ≡ settled_if (s.whole && ((s.due || not n) && (true && none_left s o))) (length s.steps + cond n 0 1)
noted_closed s a ticket o true taken =
    let same : length s.steps ≡ length s.steps + 0 = omega arith in
    λ k. settled_if (s.whole && (or_false s.due k && left_is s ticket o taken k)) (same k)
noted_closed s a ticket o false taken =
    let more : length (s.steps ++ step.Commit a analysis_text (length o.changes.items) ∷ []) ≡ length s.steps + 1 = length-append s.steps (step.Commit a analysis_text (length o.changes.items) ∷ []) in
    λ k. settled_if (s.whole && (or_true s.due k && left_is s ticket o taken k)) (more k)

noted_in : (s : State) (a ticket : ℕ) (o : Outcome) (current : Option Open) → is_some (job_of ticket s.taken) ≡ true
    → settled_step (offered_in (record s { taken = other_jobs ticket s.taken }) a (batch_of o s.queue) current)
    ≡ settled_if (s.whole && ((s.due || not (is_none_in o.changes.items)) && (not (is_open current) && none_left s o))) (length s.steps + cond (is_none_in o.changes.items) 0 1)
noted_in s a ticket o None taken = noted_closed s a ticket o (is_none_in o.changes.items) taken
noted_in s a ticket o (Some w) taken =
    ap (λ (b : Bool). settled_if b (length s.steps)) (never s.whole s.due)
    ∙ sym (ap (λ (b : Bool). settled_if b (length s.steps + cond (is_none_in o.changes.items) 0 1)) (never s.whole (s.due || not (is_none_in o.changes.items))))

pub noted_by : (s : State) (a ticket : ℕ) (o : Outcome) → is_some (job_of ticket s.taken) ≡ true → settled_step (taken_in s a ticket o) ≡ settled_if (settles_by s o) (length s.steps + cond (is_none_in o.changes.items) 0 1)
noted_by s a ticket o taken = noted_in s a ticket o s.current taken
