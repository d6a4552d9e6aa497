-- What an offer is answered, and the state that its outcome leads to. Use `misfit_found` where its proposals don't fit the job,
-- and where something joined `committed_is` or `grown_is`.
use Rattle.std.proofs.Common.{◌≡◌, ℕ, ◌+◌, Bool, true, false, cond, not, List, [], ◌∷◌, ◌++◌, length, Option, Some, None, refl, sym, ap, ◌∙◌, subst}
use Rattle.std.proofs.lemmas.Bool.{true≢false}
use Rattle.std.proofs.lemmas.List.{length-append}
use Rattle.rvd_fact.specs.declared.cells.Change.{Change}
use Rattle.rvd_fact.specs.Program.{Program}
use Rattle.rvd_ask.specs.declared.asks.Item.{Item}
use Rattle.rvd_ask.specs.Promise.{Proposed}
use Rattle.rvd_event.specs.declared.replies.Reply.TheVariants as reply
use Rattle.rvd_event.specs.declared.replies.Refusal.TheVariants as refusal
use Rattle.rvd_event.specs.declared.steps.Step.{Step}
use Rattle.rvd_event.specs.declared.steps.Step.TheVariants as step
use Rattle.rvd_judge.specs.Batches.{is_none_in}
use Rattle.rvd_queue.specs.Jobs.{Job as TakenJob, without_ticket}
use Rattle.rvd_queue.specs.Sets.{with_all}
use Rattle.rvd_trans.specs.Transaction.{Transaction}
use Rattle.rvd_undo.specs.History.{History, after_commit}
use Rattle.rvd_machine.specs.Exact.{first_misfit, IsExactIn, IsExactReply, IsFitReply}
use Rattle.rvd_machine.specs.Moves.{analysis_text, commit, offered_in}
use Rattle.rvd_machine.specs.Replies.{IsOfferReply}
use Rattle.rvd_machine.specs.State.{State, Job, Open, is_open, job_of, other_jobs}
use Rattle.rvd_machine.specs.Steps.{AreJobs}
use Rattle.rvd_machine.specs.Verdicts.{Batch}
use Rattle.rvd_machine.proofs.Exacts.{misfit_within}
use Rattle.rvd_engine.specs.declared.offers.Outcome.{Outcome}
use Rattle.rvd_engine.specs.declared.working.Working.{Working}
use Rattle.rvd_engine.specs.Inside.{current_in, jobs_in, open_in, open_of}
use Rattle.rvd_engine.specs.Offered.{batch_of, shown, taken_in}
use Rattle.rvd_engine.proofs.TakenJobs.{dropped_is, shown_is}

-- an offer whose proposals don't fit the job of its ticket
misfit_in : (s : State) (ticket : ℕ) (proposals : List Proposed) (place : ℕ) (job : Job) (o : Option Job) → o ≡ Some job → Some place ≡ first_misfit job.items proposals
    → IsExactIn s ticket proposals o (reply.Refused (refusal.Misfit place)) × IsOfferReply s ticket o (reply.Refused (refusal.Misfit place))
misfit_in s ticket proposals place job o is misfits =
    subst (λ (x : Option Job). IsExactIn s ticket proposals x (reply.Refused (refusal.Misfit place)) × IsOfferReply s ticket x (reply.Refused (refusal.Misfit place))) (sym is) (
      subst (λ (found : Option ℕ). IsFitReply s job proposals found (reply.Refused (refusal.Misfit place))) misfits refl,
      misfit_within job.items proposals place (sym misfits),
    )

pub misfit_found : (s : State) (ticket : ℕ) (proposals : List Proposed) (place : ℕ) (items : List Item) (P : Program) → shown ticket s.taken ≡ Some (items, P) → Some place ≡ first_misfit items proposals
    → IsExactReply s ticket proposals (reply.Refused (refusal.Misfit place)) × (ℕ → IsOfferReply s ticket (job_of ticket s.taken) (reply.Refused (refusal.Misfit place)))
misfit_found s ticket proposals place items P is misfits =
    let job = shown_is (job_of ticket s.taken) items P is in
    let both = misfit_in s ticket proposals place job.0 (job_of ticket s.taken) job.1 (misfits ∙ ap (λ (xs : List Item). first_misfit xs proposals) (sym job.2)) in
    (both.0, λ actor. both.1)

-- the state after an outcome, where nothing is open
pub is_closed : (kept : List Item) (current : Option Working) → is_open (current_in kept current) ≡ false → current ≡ None
is_closed kept None closed = refl
is_closed kept (Some w) closed = absurd (true≢false closed)

pub committed_is : (s : State) (a ticket : ℕ) (o : Outcome) (h : History) (queue : List Item) (taken : List Job) (steps : List Step) (current : Option Open) → s.current ≡ None → current ≡ None → is_none_in o.changes.items ≡ false
    → h ≡ after_commit s.history o.work → queue ≡ with_all o.again.items s.queue → taken ≡ other_jobs ticket s.taken → steps ≡ s.steps ++ step.Commit a analysis_text (length o.changes.items) ∷ []
    → record s { history = h; queue = queue; taken = taken; steps = steps; current = current; due = true } ≡ taken_in s a ticket o
committed_is s a ticket o h queue taken steps current closed none some is gained gone noted =
    let t : State = record s { taken = other_jobs ticket s.taken } in
    let b : Batch = batch_of o s.queue in
    let all : record s { history = h; queue = queue; taken = taken; steps = steps; current = current; due = true } ≡ commit (record t { queue = b.queue }) b.work (step.Commit a analysis_text b.changes) =
    λ k. record s { history = is k; queue = gained k; taken = gone k; steps = noted k; current = none k; due = true } in
    all
    ∙ sym (ap (λ (x : Bool). cond (not x) (commit (record t { queue = b.queue }) b.work (step.Commit a analysis_text b.changes)) (record t { queue = b.queue; current = None })) some)
    ∙ sym (ap (offered_in t a b) closed)

-- and where a transaction is open
pub grown_is : (s : State) (a ticket : ℕ) (o : Outcome) (w : Open) (queue : List Item) (taken : List Job) (current : Option Open) → s.current ≡ Some w → current ≡ Some (record w { work = o.work; changes = w.changes + length o.changes.items })
    → queue ≡ with_all o.again.items s.queue → taken ≡ other_jobs ticket s.taken
    → record s { queue = queue; taken = taken; current = current } ≡ taken_in s a ticket o
grown_is s a ticket o w queue taken current open_one grown gained gone =
    let t : State = record s { taken = other_jobs ticket s.taken } in
    let b : Batch = batch_of o s.queue in
    let all : record s { queue = queue; taken = taken; current = current } ≡ offered_in t a b (Some w) =
    λ k. record s { queue = gained k; taken = gone k; current = grown k } in
    all ∙ sym (ap (offered_in t a b) open_one)

pub noted_more : (kept : List Item) (P : Program) (w : Working) (joint : Transaction) (cs : List Change) → joint ≡ record w.joint { changes = w.joint.changes ++ cs; spare = joint.spare }
    → open_of kept P joint ≡ record (open_in kept w) { work = P; changes = length w.joint.changes + length cs }
noted_more kept P w joint cs is =
    ap (open_of kept P) is ∙ ap (λ (n : ℕ). let o : Open = record (open_in kept w) { work = P; changes = n } in o) (length-append w.joint.changes cs)

-- the jobs that are left
pub jobs_left : (s : State) (ticket : ℕ) (jobs left : List (TakenJob Program)) → AreJobs 1 s.next_ticket (jobs_in jobs) → left ≡ without_ticket ticket jobs → jobs_in left ≡ other_jobs ticket (jobs_in jobs)
jobs_left s ticket jobs left rising is = ap jobs_in is ∙ dropped_is ticket 1 s.next_ticket jobs rising
