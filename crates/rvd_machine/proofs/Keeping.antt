-- The jobs whose tickets were given: each stays as it is, or is gone. Use `jobs_stay_all`, and
-- `job_is_given_all` for the job that a take gave.
use Rattle.std.proofs.Common.{◌≡◌, ℕ, suc, ◌+◌, ◌<◌, ◌≤◌, Bool, true, false, cond, ◌&&◌, ◌==◌, nat_lt, List, [], ◌∷◌, ◌++◌, length, take, Option, Some, None, Result, Ok, Err, refl, sym, ap, ◌∙◌, subst, arith, inl, inr, append_assoc}
use Rattle.std.specs.Prelude.{◌⊎◌}
use Rattle.std.proofs.lemmas.Bool.{cond_both, cond-true, cond-false, eq-eqb, ne_eqb}
use Rattle.std.proofs.lemmas.List.{append-nil}
use Rattle.std.proofs.lemmas.Option.{same_Some}
use mathlib.Core.Logic.{dite}
use native.Mathlib.Decide.{ℕ_discrete}
use Rattle.rvd_fact.specs.declared.cells.Change.{Change}
use Rattle.rvd_ask.specs.declared.asks.Item.{Item}
use Rattle.rvd_event.specs.declared.edits.EditRefusal.{EditRefusal}
use Rattle.rvd_event.specs.declared.events.Event.{Event}
use Rattle.rvd_event.specs.declared.events.Event.TheVariants as event
use Rattle.rvd_event.specs.declared.replies.Reply.{Reply}
use Rattle.rvd_event.specs.declared.replies.Reply.TheVariants as reply
use Rattle.rvd_event.specs.declared.steps.Step.TheVariants as step
use Rattle.rvd_event.specs.declared.verdicts.Verdict.{Verdict}
use Rattle.rvd_trans.specs.Entries.{count_of}
use Rattle.rvd_journal.specs.declared.entries.Entry.{Entry}
use Rattle.rvd_edit.specs.Edits.{edit_of}
use Rattle.rvd_machine.specs.State.{State, Open, Job, base, work, without, job_of, other_jobs}
use Rattle.rvd_machine.specs.Verdicts.{Batch, first_batch, judged_all}
use Rattle.rvd_machine.specs.Moves.{move, changed_in, edited_by, ended_open, ended_in, entry_ended, closed_in, entries_aborted, commit, commit_step, rollback, offered_in, offered_job, analysis_text, settled, settles, taken_by}
use Rattle.rvd_machine.specs.Replies.{IsReply, take_reply, takes_none}
use Rattle.rvd_machine.specs.Steps.{Head, IsLegal, IsStep, LegalIsBounded, IsBounded, AreJobs, moved, counted, after, is_refused, verdicts_in, start_of, state_from, state}
use Rattle.rvd_machine.specs.Running.{IsGiven, JobIsGiven, KeepsJobs, JobsStay}
use Rattle.rvd_machine.proofs.Jobs.{job_here}
use Rattle.rvd_machine.proofs.Journals.{legal_part, state-append, state-push, steps_after}

-- ---- lists of jobs
job_below : (k from next : ℕ) (jobs : List Job) → AreJobs from next jobs → k < from → job_of k jobs ≡ None
job_below k from next [] h low = refl
job_below k from next (job ∷ jobs) h low =
    let first = h.0 in
    ap (λ b. cond b (Some job) (job_of k jobs)) (ne_eqb job.ticket k (λ e. absurd (omega (arith, e, first, low))))
    ∙ job_below k (job.ticket + 1) next jobs h.2 (omega (arith, first, low))

job_others : (k ticket from next : ℕ) (jobs : List Job) → AreJobs from next jobs → (job_of k (other_jobs ticket jobs) ≡ None) ⊎ (job_of k (other_jobs ticket jobs) ≡ job_of k jobs)
job_others k ticket from next [] h = inl refl
job_others k ticket from next (job ∷ jobs) h = cond_both (job.ticket == ticket) jobs (job ∷ other_jobs ticket jobs) (λ left. (job_of k left ≡ None) ⊎ (job_of k left ≡ job_of k (job ∷ jobs)))
    (λ _. dite (ℕ_discrete job.ticket k)
    (λ e. inl (job_below k (job.ticket + 1) next jobs h.2 (omega (arith, e))))
    (λ ne. inr (sym (ap (λ b. cond b (Some job) (job_of k jobs)) (ne_eqb job.ticket k ne)))))
    (λ _. dite (ℕ_discrete job.ticket k)
    (λ e. inr (ap (λ b. cond b (Some job) (job_of k (other_jobs ticket jobs))) (eq-eqb job.ticket k e) ∙ sym (ap (λ b. cond b (Some job) (job_of k jobs)) (eq-eqb job.ticket k e))))
    (λ ne. rest ne (job_others k ticket (job.ticket + 1) next jobs h.2)))
  where
    rest : (job.ticket ≡ k → ⊥) → (job_of k (other_jobs ticket jobs) ≡ None) ⊎ (job_of k (other_jobs ticket jobs) ≡ job_of k jobs)
        → (job_of k (job ∷ other_jobs ticket jobs) ≡ None) ⊎ (job_of k (job ∷ other_jobs ticket jobs) ≡ job_of k (job ∷ jobs))
    rest ne (inl none) = inl (ap (λ b. cond b (Some job) (job_of k (other_jobs ticket jobs))) (ne_eqb job.ticket k ne) ∙ none)
    rest ne (inr same) = inr (ap (λ b. cond b (Some job) (job_of k (other_jobs ticket jobs))) (ne_eqb job.ticket k ne) ∙ same ∙ sym (ap (λ b. cond b (Some job) (job_of k jobs)) (ne_eqb job.ticket k ne)))

job_pushed : (k : ℕ) (jobs : List Job) (job : Job) → k < job.ticket → job_of k (jobs ++ job ∷ []) ≡ job_of k jobs
job_pushed k [] job low = ap (λ b. cond b (Some job) None) (ne_eqb job.ticket k (λ e. absurd (omega (arith, e, low))))
job_pushed k (j ∷ jobs) job low = ap (λ rest. cond (j.ticket == k) (Some j) rest) (job_pushed k jobs job low)

-- ---- each event
like : (s t : State) → t.taken ≡ s.taken → t.next_ticket ≡ s.next_ticket → KeepsJobs s t
like s t taken next = record { tickets = omega (arith, next); jobs = λ k low. inr (ap (job_of k) taken) }

onward : (s t u : State) → KeepsJobs s t → KeepsJobs t u → KeepsJobs s u
onward s t u h g =
    let first = h.tickets in
    let second = g.tickets in
    record { tickets = omega (arith, first, second); jobs = λ k low. both k (g.jobs k (omega (arith, low, first))) (h.jobs k low) }
  where
    both : (k : ℕ) → (job_of k u.taken ≡ None) ⊎ (job_of k u.taken ≡ job_of k t.taken) → (job_of k t.taken ≡ None) ⊎ (job_of k t.taken ≡ job_of k s.taken)
        → (job_of k u.taken ≡ None) ⊎ (job_of k u.taken ≡ job_of k s.taken)
    both k (inl none) second = inl none
    both k (inr same) (inl none) = inl (same ∙ none)
    both k (inr same) (inr still) = inr (same ∙ still)

changed_keeps : (s : State) (cs : List Change) (c : Option Open) → KeepsJobs s (changed_in s cs c)
changed_keeps s cs None = like s (changed_in s cs None) refl refl
changed_keeps s cs (Some o) = like s (changed_in s cs (Some o)) refl refl

edited_keeps : (s : State) (r : Result (List Change) EditRefusal) → KeepsJobs s (edited_by s r)
edited_keeps s (Ok cs) = changed_keeps s cs s.current
edited_keeps s (Err r) = like s s refl refl

ended_open_keeps : (s : State) (o : Open) → KeepsJobs s (ended_open s o)
ended_open_keeps s o = cond_both (nat_lt 0 (length o.entries)) (record s { current = Some o }) (cond o.aborted (rollback s o) (commit s o.work (commit_step o))) (KeepsJobs s)
    (λ _. like s (record s { current = Some o }) refl refl)
    (λ _. cond_both o.aborted (rollback s o) (commit s o.work (commit_step o)) (KeepsJobs s)
    (λ _. like s (rollback s o) refl refl)
    (λ _. like s (commit s o.work (commit_step o)) refl refl))

ended_keeps : (s : State) (a : ℕ) (keep : Bool) (c : Option Open) → KeepsJobs s (ended_in s a keep c)
ended_keeps s a keep None = like s (ended_in s a keep None) refl refl
ended_keeps s a keep (Some o) = ended_open_keeps s (entry_ended a keep o)

closed_keeps : (s t : State) (a : ℕ) (c : Option Open) → t.taken ≡ s.taken → t.next_ticket ≡ s.next_ticket → KeepsJobs s (closed_in t a c)
closed_keeps s t a None taken next = like s (closed_in t a None) taken next
closed_keeps s t a (Some o) taken next = cond_both (nat_lt 0 (count_of a o.entries) && (length (entries_aborted a o).entries == 0)) (rollback t (entries_aborted a o)) (record t { current = Some (entries_aborted a o) }) (KeepsJobs s)
    (λ _. like s (rollback t (entries_aborted a o)) taken next)
    (λ _. like s (record t { current = Some (entries_aborted a o) }) taken next)

offered_like : (s : State) (a : ℕ) (b : Batch) (c : Option Open) → KeepsJobs s (offered_in s a b c)
offered_like s a b None =
    let x = step.Commit a analysis_text b.changes in
    cond_both b.joined (commit (record s { queue = b.queue }) b.work x) (record s { queue = b.queue; current = None }) (KeepsJobs s)
    (λ _. like s (commit (record s { queue = b.queue }) b.work x) refl refl)
    (λ _. like s (record s { queue = b.queue; current = None }) refl refl)
offered_like s a b (Some o) = like s (offered_in s a b (Some o)) refl refl

fewer : (ticket from : ℕ) (s : State) → AreJobs from s.next_ticket s.taken → KeepsJobs s (record s { taken = other_jobs ticket s.taken })
fewer ticket from s jobs = record { tickets = omega arith; jobs = λ k low. job_others k ticket from s.next_ticket s.taken jobs }

job_keeps : (s : State) (a ticket : ℕ) (vs : List Verdict) (o : Option Job) → AreJobs 1 s.next_ticket s.taken → KeepsJobs s (offered_job s a ticket vs o)
job_keeps s a ticket vs None jobs = like s s refl refl
job_keeps s a ticket vs (Some job) jobs =
    let t : State = record s { taken = other_jobs ticket s.taken } in
    let b = judged_all s.enabled (first_batch s) job.items vs in
    onward s t (offered_in t a b s.current) (fewer ticket 1 s jobs) (offered_like t a b s.current)

pushed : (s : State) (n : ℕ) → KeepsJobs s (move s 0 (event.Take n) [])
pushed s n = record { tickets = omega arith; jobs = λ k low. inr (job_pushed k s.taken (record { ticket = s.next_ticket; items = take n s.queue; program = work s }) low) }

gone : (s t : State) → t.taken ≡ [] → t.next_ticket ≡ s.next_ticket → KeepsJobs s t
gone s t taken next = record { tickets = omega (arith, next); jobs = λ k low. inl (ap (job_of k) taken) }

move_keeps : (s : State) (a : ℕ) (e : Event) (vs : List Verdict) → AreJobs 1 s.next_ticket s.taken → KeepsJobs s (move s a e vs)
move_keeps s a (event.Begin text) vs jobs = like s (move s a (event.Begin text) vs) refl refl
move_keeps s a (event.Edit e) vs jobs = edited_keeps s (edit_of (work s) e)
move_keeps s a (event.End keep) vs jobs = ended_keeps s a keep s.current
move_keeps s a event.Undo vs jobs = like s (move s a event.Undo vs) refl refl
move_keeps s a event.Redo vs jobs = like s (move s a event.Redo vs) refl refl
move_keeps s a event.Full vs jobs = like s (move s a event.Full vs) refl refl
move_keeps s a event.Cancel vs jobs = gone s (move s a event.Cancel vs) refl refl
move_keeps s a (event.Enable z true) vs jobs = like s (move s a (event.Enable z true) vs) refl refl
move_keeps s a (event.Enable z false) vs jobs = like s (move s a (event.Enable z false) vs) refl refl
move_keeps s a event.Read vs jobs = like s s refl refl
move_keeps s a event.Wait vs jobs = like s s refl refl
move_keeps s a event.Close vs jobs = closed_keeps s (record s { open_sessions = without a s.open_sessions }) a s.current refl refl
move_keeps s a (event.Take n) vs jobs = pushed s n
move_keeps s a (event.Offer ticket) vs jobs = job_keeps s a ticket vs (job_of ticket s.taken) jobs

-- ---- each entry, and entries
settled_keeps : (s : State) → KeepsJobs s (settled (counted s))
settled_keeps s = cond_both (settles (counted s)) (record (counted s) { steps = s.steps ++ step.Settled ∷ []; due = false }) (counted s) (KeepsJobs s)
    (λ _. like s (record (counted s) { steps = s.steps ++ step.Settled ∷ []; due = false }) refl refl)
    (λ _. like s (counted s) refl refl)

pub entry_keeps : (s : State) (e : Entry) → AreJobs 1 s.next_ticket s.taken → KeepsJobs s (after s e)
entry_keeps s e jobs =
    let m = moved s e.actor e.event e.reply in
    onward s m (after s e)
    (cond_both (is_refused e.reply) s (move s e.actor e.event (verdicts_in e.reply)) (KeepsJobs s) (λ _. like s s refl refl) (λ _. move_keeps s e.actor e.event (verdicts_in e.reply) jobs))
    (settled_keeps m)

pub jobs_stay_all : LegalIsBounded → JobsStay
jobs_stay_all bounds h J [] legal = subst (λ l. KeepsJobs (state h J) (state h l)) (sym (append-nil J)) (like (state h J) (state h J) refl refl)
jobs_stay_all bounds h J (e ∷ K) legal =
    let parts : (J ++ e ∷ []) ++ K ≡ J ++ e ∷ K = append_assoc J (e ∷ []) K in
    let legal' : IsLegal h ((J ++ e ∷ []) ++ K) = subst (IsLegal h) (sym parts) legal in
    let first : KeepsJobs (state h J) (state h (J ++ e ∷ [])) = subst (KeepsJobs (state h J)) (sym (state-append h J (e ∷ []))) (entry_keeps (state h J) e (bounds h J (legal_part h J (e ∷ K) legal)).jobs) in
    subst (λ l. KeepsJobs (state h J) (state h l)) parts (onward (state h J) (state h (J ++ e ∷ [])) (state h ((J ++ e ∷ []) ++ K)) first (jobs_stay_all bounds h (J ++ e ∷ []) K legal'))

-- ---- the job that a take gave
same_items : (t u : ℕ) (is js : List Item) → Some (reply.Job t is) ≡ Some (reply.Job u js) → (t ≡ u) × (is ≡ js)
same_items t u is js same = let e = same_Some (reply.Job t is) (reply.Job u js) same in ((let a : t ≡ u = cc in a), (let b : is ≡ js = cc in b))

no_job : (t : ℕ) (is : List Item) → (let o : Option Reply = None in o) ≡ Some (reply.Job t is) → ⊥
no_job t is same = cc

given_by : (b : Bool) (t u : ℕ) (is js : List Item) → cond b None (Some (reply.Job t is)) ≡ Some (reply.Job u js) → (t ≡ u) × (is ≡ js)
given_by true t u is js same = absurd (no_job u js same)
given_by false t u is js same = same_items t u is js same

pub settled-taken : (s : State) → (settled s).taken ≡ s.taken
settled-taken s = cond_both (settles s) _ s (λ (t : State). t.taken ≡ s.taken) (λ _. refl) (λ _. refl)

settled-next : (s : State) → (settled s).next_ticket ≡ s.next_ticket
settled-next s = cond_both (settles s) _ s (λ (t : State). t.next_ticket ≡ s.next_ticket) (λ _. refl) (λ _. refl)

pub job_is_given_all : LegalIsBounded → JobIsGiven
job_is_given_all bounds h J e n ticket items legal is_take is_job =
    let s = state h J in
    let step : IsStep s e = (steps_after h J (e ∷ []) legal).0 in
    let said : take_reply s n ≡ Some (reply.Job ticket items) =
    subst (λ (r : Reply). take_reply s n ≡ Some r) is_job (subst (λ (v : Event). IsReply s e.actor v e.reply) is_take step.reply) in
    let gave = given_by (takes_none s n) s.next_ticket ticket (take n s.queue) items said in
    let job : Job = record { ticket = s.next_ticket; items = take n s.queue; program = work s } in
    let same : job ≡ (let j : Job = record { ticket = ticket; items = items; program = work s } in j) = (λ i. record { ticket = gave.0 i; items = gave.1 i; program = work s }) in
    let here : job_of s.next_ticket (s.taken ++ job ∷ []) ≡ Some job = job_here s.next_ticket s.taken job 1 (bounds h J (legal_part h J (e ∷ []) legal)).jobs refl in
    let t : State = settled (counted (taken_by s n)) in
    let is : state h (J ++ e ∷ []) ≡ t = state-push h J e ∙ ap (λ (v : Event). settled (counted (moved s e.actor v e.reply))) is_take
    ∙ ap (λ (r : Reply). settled (counted (moved s e.actor (event.Take n) r))) is_job in
    let next : t.next_ticket ≡ s.next_ticket + 1 = settled-next (counted (taken_by s n)) in
    let low : ticket < t.next_ticket = (let k = gave.0 in omega (arith, next, k)) in
    let there : job_of ticket t.taken ≡ Some (record { ticket = ticket; items = items; program = work s }) =
    ap (job_of ticket) (settled-taken (counted (taken_by s n))) ∙ ap (λ (k : ℕ). job_of k (s.taken ++ job ∷ [])) (sym gave.0) ∙ here ∙ ap Some same in
    subst (λ (u : State). IsGiven u (record { ticket = ticket; items = items; program = work s })) (sym is) (record { there = there; given = low })
