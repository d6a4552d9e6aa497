-- Offers whose replies were given before. Use `cancelled_may` and `misfit_may` for a refusal, with their converses, and
-- `found_job` for verdicts.
use Rattle.std.proofs.Common.{◌≡◌, ℕ, Bool, true, false, cond, List, length, Option, Some, None, is_some, refl, sym, ap, ◌∙◌, subst}
use Rattle.std.specs.Prelude.{MatchOption}
use Rattle.rvd_fact.specs.Program.{Program}
use Rattle.rvd_ask.specs.declared.asks.Item.{Item}
use Rattle.rvd_event.specs.declared.events.Event.TheVariants as event
use Rattle.rvd_event.specs.declared.replies.Reply.TheVariants as reply
use Rattle.rvd_event.specs.declared.replies.Refusal.{Refusal}
use Rattle.rvd_event.specs.declared.replies.Refusal.TheVariants as refusal
use Rattle.rvd_event.specs.declared.steps.Step.TheVariants as step
use Rattle.rvd_event.specs.declared.verdicts.Verdict.{Verdict}
use Rattle.rvd_judge.specs.Batches.{batch_on}
use Rattle.rvd_machine.specs.Enabled.{Enabled}
use Rattle.rvd_machine.specs.Moves.{analysis_text, commit, offered_in, offered_job}
use Rattle.rvd_machine.specs.Replies.{IsJobReply, IsOfferReply}
use Rattle.rvd_machine.specs.State.{State, Job, Open, job_of, other_jobs, work}
use Rattle.rvd_machine.specs.Verdicts.{AreVerdicts, Batch, first_batch, judged_all}
use Rattle.rvd_engine.specs.declared.offers.Outcome.{Outcome}
use Rattle.rvd_engine.specs.Admitted.{AreIllegal, AreIllegalOn, IsChecked, IsCheckedOn, IsMisfitIn}
use Rattle.rvd_engine.specs.Offered.{batch_of, shown, taken_in}
use Rattle.rvd_engine.proofs.TakenJobs.{none_shown, shown_is}

-- ---- refusals
pub cancelled_may : (s : State) (ticket : ℕ) (r : Refusal) → shown ticket s.taken ≡ None → r ≡ refusal.Cancelled ticket → IsOfferReply s ticket (job_of ticket s.taken) (reply.Refused r)
cancelled_may s ticket r none is =
    subst (λ (o : Option Job). IsOfferReply s ticket o (reply.Refused r)) (sym (none_shown (job_of ticket s.taken) none)) (ap reply.Refused is)

pub may_cancelled : (s : State) (ticket : ℕ) (r : Refusal) → shown ticket s.taken ≡ None → IsOfferReply s ticket (job_of ticket s.taken) (reply.Refused r) → r ≡ refusal.Cancelled ticket
may_cancelled s ticket r none may =
    let is : reply.Refused r ≡ reply.Refused (refusal.Cancelled ticket) = subst (λ (o : Option Job). IsOfferReply s ticket o (reply.Refused r)) (none_shown (job_of ticket s.taken) none) may in
    cc

-- a refusal of a job that is there is a misfit
misfit_reply : (s : State) (job : Job) (r : Refusal) → IsMisfitIn (length job.items) r → IsJobReply s job (reply.Refused r)
misfit_reply s job (refusal.Misfit place) is = is
misfit_reply s job refusal.NoSession is = is
misfit_reply s job refusal.NoTransaction is = is
misfit_reply s job refusal.TooManyEntries is = is
misfit_reply s job (refusal.TransactionOpen n) is = is
misfit_reply s job refusal.NothingToUndo is = is
misfit_reply s job refusal.NothingToRedo is = is
misfit_reply s job (refusal.HasEntry n) is = is
misfit_reply s job (refusal.Cancelled n) is = is
misfit_reply s job (refusal.Edit e) is = is

reply_misfit : (s : State) (job : Job) (r : Refusal) → IsJobReply s job (reply.Refused r) → IsMisfitIn (length job.items) r
reply_misfit s job (refusal.Misfit place) is = is
reply_misfit s job refusal.NoSession is = is
reply_misfit s job refusal.NoTransaction is = is
reply_misfit s job refusal.TooManyEntries is = is
reply_misfit s job (refusal.TransactionOpen n) is = is
reply_misfit s job refusal.NothingToUndo is = is
reply_misfit s job refusal.NothingToRedo is = is
reply_misfit s job (refusal.HasEntry n) is = is
reply_misfit s job (refusal.Cancelled n) is = is
reply_misfit s job (refusal.Edit e) is = is

pub misfit_may : (s : State) (ticket : ℕ) (items : List Item) (P : Program) (r : Refusal) → shown ticket s.taken ≡ Some (items, P) → IsMisfitIn (length items) r → IsOfferReply s ticket (job_of ticket s.taken) (reply.Refused r)
misfit_may s ticket items P r is few =
    let job = shown_is (job_of ticket s.taken) items P is in
    subst (λ (o : Option Job). IsOfferReply s ticket o (reply.Refused r)) (sym job.1) (misfit_reply s job.0 r (subst (λ (xs : List Item). IsMisfitIn (length xs) r) (sym job.2) few))

pub may_misfit : (s : State) (ticket : ℕ) (items : List Item) (P : Program) (r : Refusal) → shown ticket s.taken ≡ Some (items, P) → IsOfferReply s ticket (job_of ticket s.taken) (reply.Refused r) → IsMisfitIn (length items) r
may_misfit s ticket items P r is may =
    let job = shown_is (job_of ticket s.taken) items P is in
    subst (λ (xs : List Item). IsMisfitIn (length xs) r) job.2 (reply_misfit s job.0 r (subst (λ (o : Option Job). IsOfferReply s ticket o (reply.Refused r)) job.1 may))

-- ---- verdicts
pub no_job : (s : State) (ticket : ℕ) (verdicts : List Verdict) → shown ticket s.taken ≡ None → AreIllegal s ticket verdicts
no_job s ticket verdicts none actor may =
    let is : reply.Verdicts verdicts ≡ reply.Refused (refusal.Cancelled ticket) = subst (λ (o : Option Job). IsOfferReply s ticket o (reply.Verdicts verdicts)) (none_shown (job_of ticket s.taken) none) may in
    cc

pub checked_job : (s : State) (ticket : ℕ) (items : List Item) (P : Program) (verdicts : List Verdict) (o : Outcome) → shown ticket s.taken ≡ Some (items, P)
    → IsCheckedOn s.enabled P (work s) items verdicts o → IsChecked s ticket verdicts o
checked_job s ticket items P verdicts o is checked =
    let job = shown_is (job_of ticket s.taken) items P is in
    let legal : AreVerdicts s.enabled job.0.program (first_batch s) job.0.items verdicts =
    subst (λ (S : Program). AreVerdicts s.enabled S (first_batch s) job.0.items verdicts) (sym job.3) (subst (λ (xs : List Item). AreVerdicts s.enabled P (first_batch s) xs verdicts) (sym job.2) (checked.legal s.queue)) in
    record {
      legal = λ actor. subst (λ (j : Option Job). IsOfferReply s ticket j (reply.Verdicts verdicts)) (sym job.1) legal;
      leads = checked.leads;
      state = λ actor.
          ap (offered_job s actor ticket verdicts) job.1
          ∙ ap (λ (b : Batch). offered_in (record s { taken = other_jobs ticket s.taken }) actor b s.current)
          (ap (λ (xs : List Item). judged_all s.enabled (first_batch s) xs verdicts) job.2 ∙ checked.batch s.queue);
    }

pub illegal_job : (s : State) (ticket : ℕ) (items : List Item) (P : Program) (verdicts : List Verdict) → shown ticket s.taken ≡ Some (items, P)
    → AreIllegalOn s.enabled P (work s) items verdicts → AreIllegal s ticket verdicts
illegal_job s ticket items P verdicts is illegal actor may =
    let job = shown_is (job_of ticket s.taken) items P is in
    let legal : AreVerdicts s.enabled job.0.program (first_batch s) job.0.items verdicts = subst (λ (j : Option Job). IsOfferReply s ticket j (reply.Verdicts verdicts)) job.1 may in
    illegal s.queue
    (subst (λ (S : Program). AreVerdicts s.enabled S (first_batch s) items verdicts) job.3 (subst (λ (xs : List Item). AreVerdicts s.enabled job.0.program (first_batch s) xs verdicts) job.2 legal))

pub is_taken : (s : State) (ticket : ℕ) (items : List Item) (P : Program) → shown ticket s.taken ≡ Some (items, P) → is_some (job_of ticket s.taken) ≡ true
is_taken s ticket items P is = ap is_some (shown_is (job_of ticket s.taken) items P is).1

-- what was found of a job that is there, either way
pub found_job : (s : State) (ticket : ℕ) (items list : List Item) (P W : Program) (E : Enabled) (verdicts : List Verdict) (found : Option Outcome) → shown ticket s.taken ≡ Some (items, P) → list ≡ items → W ≡ work s → E ≡ s.enabled
    → MatchOption found (AreIllegalOn E P W list verdicts) (IsCheckedOn E P W list verdicts) → MatchOption found (AreIllegal s ticket verdicts) (IsChecked s ticket verdicts)
found_job s ticket items list P W E verdicts found is same_list same_work same_enabled at =
    by found (subst (λ (F : Enabled). MatchOption found (AreIllegalOn F P (work s) items verdicts) (IsCheckedOn F P (work s) items verdicts)) same_enabled
    (subst (λ (S : Program). MatchOption found (AreIllegalOn E P S items verdicts) (IsCheckedOn E P S items verdicts)) same_work
    (subst (λ (xs : List Item). MatchOption found (AreIllegalOn E P W xs verdicts) (IsCheckedOn E P W xs verdicts)) same_list at)))
  where
    by : (o : Option Outcome) → MatchOption o (AreIllegalOn s.enabled P (work s) items verdicts) (IsCheckedOn s.enabled P (work s) items verdicts) → MatchOption o (AreIllegal s ticket verdicts) (IsChecked s ticket verdicts)
    by None illegal = illegal_job s ticket items P verdicts is illegal
    by (Some o) checked = checked_job s ticket items P verdicts o is checked

-- an outcome leaves the number of entries as it is
count_in : (s : State) (a : ℕ) (b : Batch) (current : Option Open) → (offered_in s a b current).count ≡ s.count
count_in s a b (Some o) = refl
count_in s a b None = by b.joined
  where
    by : (joined : Bool) → (cond joined (commit (record s { queue = b.queue }) b.work (step.Commit a analysis_text b.changes)) (record s { queue = b.queue; current = None })).count ≡ s.count
    by true = refl
    by false = refl

pub count_stays : (s : State) (a ticket : ℕ) (o : Outcome) → (taken_in s a ticket o).count ≡ s.count
count_stays s a ticket o = count_in (record s { taken = other_jobs ticket s.taken }) a (batch_of o s.queue) s.current
