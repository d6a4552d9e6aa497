-- The committed program changes only where a step is noted, so the number of steps tells it. Use `base_is_at_steps`,
-- and `steps_stay_all` for the steps themselves.
use Rattle.std.proofs.Common.{◌≡◌, ℕ, ◌≤◌, Bool, true, false, cond, ◌&&◌, ◌==◌, nat_lt, nat_le, List, [], ◌∷◌, ◌++◌, length, Option, Some, None, Result, Ok, Err, refl, sym, ap, ◌∙◌, subst, arith, append_assoc}
use Rattle.std.proofs.lemmas.Bool.{cond_both, leb-true, le-leb}
use Rattle.std.proofs.lemmas.List.{append-nil, length-append}
use Rattle.rvd_fact.specs.declared.cells.Change.{Change}
use Rattle.rvd_fact.specs.Program.{Program}
use Rattle.rvd_event.specs.declared.edits.EditRefusal.{EditRefusal}
use Rattle.rvd_event.specs.declared.events.Event.{Event}
use Rattle.rvd_event.specs.declared.events.Event.TheVariants as event
use Rattle.rvd_event.specs.declared.steps.Step.{Step}
use Rattle.rvd_event.specs.declared.steps.Step.TheVariants as step
use Rattle.rvd_event.specs.declared.verdicts.Verdict.{Verdict}
use Rattle.rvd_trans.specs.Entries.{count_of}
use Rattle.rvd_journal.specs.declared.entries.Entry.{Entry}
use Rattle.rvd_edit.specs.Edits.{edit_of}
use Rattle.rvd_machine.specs.State.{State, Open, Job, base, work, without, job_of, other_jobs}
use Rattle.rvd_machine.specs.Verdicts.{Batch, first_batch, judged_all}
use Rattle.rvd_machine.specs.Moves.{move, changed_in, edited_by, ended_open, ended_in, entry_ended, closed_in, entries_aborted, commit, commit_step, rollback, offered_in, offered_job, analysis_text, settled, settles}
use Rattle.rvd_machine.specs.Running.{KeepsSteps, StepsStay}
use Rattle.rvd_machine.proofs.Journals.{state-append}
use Rattle.rvd_machine.specs.Steps.{moved, counted, after, is_refused, verdicts_in, start_of, state, state_from, base_at_from, BaseIsAtSteps}

-- steps are only added, and where none is, the committed program stays
record Notes (s t : State) : Type 0 where
  keeps : KeepsSteps s t
  stays : length t.steps ≤ length s.steps → base t ≡ base s

pub longer : (s t : State) → KeepsSteps s t → length s.steps ≤ length t.steps
longer s t keeps = let e = ap length keeps.grown ∙ length-append s.steps keeps.more in omega (arith, e)

still : (s t : State) → t.steps ≡ s.steps → base t ≡ base s → Notes s t
still s t steps same = record { keeps = record { more = []; grown = steps ∙ sym (append-nil s.steps) }; stays = λ _. same }

noted : (s t : State) (x : Step) → t.steps ≡ s.steps ++ x ∷ [] → Notes s t
noted s t x steps =
    let e = ap length steps ∙ length-append s.steps (x ∷ []) in
    record { keeps = record { more = x ∷ []; grown = steps }; stays = λ le. absurd (omega (arith, e, le)) }

onward : (s t u : State) → Notes s t → Notes t u → Notes s u
onward s t u h k =
    let first = longer s t h.keeps in
    let second = longer t u k.keeps in
    record {
      keeps = record {
        more = h.keeps.more ++ k.keeps.more;
        grown = k.keeps.grown ∙ ap (λ (all : List Step). all ++ k.keeps.more) h.keeps.grown ∙ append_assoc s.steps h.keeps.more k.keeps.more;
      };
      stays = λ le. k.stays (omega (arith, le, first)) ∙ h.stays (omega (arith, le, second));
    }

-- ---- each event
changed_notes : (s : State) (cs : List Change) (c : Option Open) → Notes s (changed_in s cs c)
changed_notes s cs None = still s (changed_in s cs None) refl refl
changed_notes s cs (Some o) = still s (changed_in s cs (Some o)) refl refl

edited_notes : (s : State) (r : Result (List Change) EditRefusal) → Notes s (edited_by s r)
edited_notes s (Ok cs) = changed_notes s cs s.current
edited_notes s (Err r) = still s s refl refl

ended_open_notes : (s : State) (o : Open) → Notes s (ended_open s o)
ended_open_notes s o = cond_both (nat_lt 0 (length o.entries)) (record s { current = Some o }) (cond o.aborted (rollback s o) (commit s o.work (commit_step o))) (Notes s)
    (λ _. still s (record s { current = Some o }) refl refl)
    (λ _. cond_both o.aborted (rollback s o) (commit s o.work (commit_step o)) (Notes s)
    (λ _. still s (rollback s o) refl refl)
    (λ _. noted s (commit s o.work (commit_step o)) (commit_step o) refl))

ended_notes : (s : State) (a : ℕ) (keep : Bool) (c : Option Open) → Notes s (ended_in s a keep c)
ended_notes s a keep None = still s (ended_in s a keep None) refl refl
ended_notes s a keep (Some o) = ended_open_notes s (entry_ended a keep o)

closed_notes : (s t : State) (a : ℕ) (c : Option Open) → t.steps ≡ s.steps → base t ≡ base s → Notes s (closed_in t a c)
closed_notes s t a None steps same = still s (closed_in t a None) steps same
closed_notes s t a (Some o) steps same = cond_both (nat_lt 0 (count_of a o.entries) && (length (entries_aborted a o).entries == 0)) (rollback t (entries_aborted a o)) (record t { current = Some (entries_aborted a o) }) (Notes s)
    (λ _. still s (rollback t (entries_aborted a o)) steps same)
    (λ _. still s (record t { current = Some (entries_aborted a o) }) steps same)

offered_notes : (s t : State) (a : ℕ) (b : Batch) (c : Option Open) → t.steps ≡ s.steps → base t ≡ base s → Notes s (offered_in t a b c)
offered_notes s t a b None steps same =
    let x = step.Commit a analysis_text b.changes in
    cond_both b.joined (commit (record t { queue = b.queue }) b.work x) (record t { queue = b.queue; current = None }) (Notes s)
    (λ _. noted s (commit (record t { queue = b.queue }) b.work x) x (ap (λ (all : List Step). all ++ x ∷ []) steps))
    (λ _. still s (record t { queue = b.queue; current = None }) steps same)
offered_notes s t a b (Some o) steps same = still s (offered_in t a b (Some o)) steps same

job_notes : (s : State) (a ticket : ℕ) (vs : List Verdict) (o : Option Job) → Notes s (offered_job s a ticket vs o)
job_notes s a ticket vs None = still s s refl refl
job_notes s a ticket vs (Some job) = offered_notes s (record s { taken = other_jobs ticket s.taken }) a (judged_all s.enabled (first_batch s) job.items vs) s.current refl refl

move_notes : (s : State) (a : ℕ) (e : Event) (vs : List Verdict) → Notes s (move s a e vs)
move_notes s a (event.Begin text) vs = still s (move s a (event.Begin text) vs) refl refl
move_notes s a (event.Edit e) vs = edited_notes s (edit_of (work s) e)
move_notes s a (event.End keep) vs = ended_notes s a keep s.current
move_notes s a event.Undo vs = noted s (move s a event.Undo vs) (step.Undo a) refl
move_notes s a event.Redo vs = noted s (move s a event.Redo vs) (step.Redo a) refl
move_notes s a event.Full vs = noted s (move s a event.Full vs) (step.Full a) refl
move_notes s a event.Cancel vs = noted s (move s a event.Cancel vs) (step.Cancel a) refl
move_notes s a (event.Enable z true) vs = noted s (move s a (event.Enable z true) vs) (step.Enable a z true) refl
move_notes s a (event.Enable z false) vs = noted s (move s a (event.Enable z false) vs) (step.Enable a z false) refl
move_notes s a event.Read vs = still s s refl refl
move_notes s a event.Wait vs = still s s refl refl
move_notes s a event.Close vs = closed_notes s (record s { open_sessions = without a s.open_sessions }) a s.current refl refl
move_notes s a (event.Take n) vs = still s (move s a (event.Take n) vs) refl refl
move_notes s a (event.Offer ticket) vs = job_notes s a ticket vs (job_of ticket s.taken)

-- ---- each entry, and entries
settled_notes : (s : State) → Notes s (settled (counted s))
settled_notes s = cond_both (settles (counted s)) (record (counted s) { steps = s.steps ++ step.Settled ∷ []; due = false }) (counted s) (Notes s)
    (λ _. noted s (record (counted s) { steps = s.steps ++ step.Settled ∷ []; due = false }) step.Settled refl)
    (λ _. still s (counted s) refl refl)

entry_notes : (s : State) (e : Entry) → Notes s (after s e)
entry_notes s e =
    let m = moved s e.actor e.event e.reply in
    onward s m (after s e)
    (cond_both (is_refused e.reply) s (move s e.actor e.event (verdicts_in e.reply)) (Notes s) (λ _. still s s refl refl) (λ _. move_notes s e.actor e.event (verdicts_in e.reply)))
    (settled_notes m)

entries_note : (s : State) (J : List Entry) → Notes s (state_from s J)
entries_note s [] = still s s refl refl
entries_note s (e ∷ J) = onward s (after s e) (state_from (after s e) J) (entry_notes s e) (entries_note (after s e) J)

-- ---- the base by the number of steps
at_once : (s : State) (n : ℕ) (K : List Entry) → n ≤ length s.steps → base_at_from n s K ≡ base s
at_once s n [] le = refl
at_once s n (e ∷ K) le = ap (λ b. cond b (base s) (base_at_from n (after s e) K)) (le-leb n (length s.steps) le)

at_steps : (s : State) (J K : List Entry) → base_at_from (length (state_from s J).steps) s (J ++ K) ≡ base (state_from s J)
at_steps s [] K = at_once s (length s.steps) K (omega arith)
at_steps s (e ∷ J) K =
    let n = length (state_from (after s e) J).steps in
    cond_both (nat_le n (length s.steps)) (base s) (base_at_from n (after s e) (J ++ K)) (λ (T : Program). T ≡ base (state_from (after s e) J))
    (λ le. sym ((entries_note s (e ∷ J)).stays (leb-true n (length s.steps) le)))
    (λ _. at_steps (after s e) J K)

pub base_is_at_steps : BaseIsAtSteps
base_is_at_steps h J K = at_steps (start_of h) J K

pub steps_stay_all : StepsStay
steps_stay_all h J K = subst (KeepsSteps (state h J)) (sym (state-append h J K)) (entries_note (state h J) K).keeps
