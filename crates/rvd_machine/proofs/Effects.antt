-- What one entry makes of the state. Use `refused_counts_alone` for refused events, and `history_is_moved` for the committed
-- programs.
use Rattle.std.proofs.Common.{◌≡◌, ℕ, ◌+◌, Bool, true, false, cond, ◌&&◌, ◌==◌, nat_lt, List, [], ◌∷◌, ◌++◌, length, Option, Some, None, Result, Ok, Err, refl, sym, ap, ◌∙◌, subst, inl, inr}
use Rattle.std.specs.Prelude.{◌⊎◌}
use Rattle.std.proofs.Math.Bool.{and-false}
use Rattle.std.proofs.lemmas.Bool.{cond_both}
use Rattle.rvd_fact.specs.declared.cells.Change.{Change}
use Rattle.rvd_fact.specs.Program.{Program}
use Rattle.rvd_event.specs.declared.edits.EditRefusal.{EditRefusal}
use Rattle.rvd_event.specs.declared.events.Event.{Event}
use Rattle.rvd_event.specs.declared.events.Event.TheVariants as event
use Rattle.rvd_event.specs.declared.steps.Step.TheVariants as step
use Rattle.rvd_event.specs.declared.verdicts.Verdict.{Verdict}
use Rattle.rvd_trans.specs.Entries.{count_of}
use Rattle.rvd_journal.specs.declared.entries.Entry.{Entry}
use Rattle.rvd_edit.specs.Edits.{edit_of}
use Rattle.rvd_undo.specs.History.{History, after_commit}
use Rattle.rvd_machine.specs.State.{State, Open, Job, base, work, work_in, without, job_of, other_jobs}
use Rattle.rvd_machine.specs.Verdicts.{Batch, first_batch, judged_all}
use Rattle.rvd_machine.specs.Moves.{move, changed_in, edited_by, ended_open, ended_in, entry_ended, closed_in, entries_aborted, commit, commit_step, rollback, offered_in, offered_job, analysis_text, settled, settled_step, settles}
use Rattle.rvd_machine.specs.Steps.{IsStep, moved, counted, after, is_refused, verdicts_in, start_of, state, state_from}
use Rattle.rvd_machine.specs.Effects.{HistoryIsMoved, MovesHistory, RefusedCountsAlone}
use Rattle.rvd_machine.proofs.Journals.{state-push, steps_after}

-- ---- a refused event: behind each entry no Settled step is left to note
noted_once : (s : State) → settles (settled s) ≡ false
noted_once s = cond_both (settles s) (record s { steps = s.steps ++ step.Settled ∷ []; due = false }) s (λ (t : State). settles t ≡ false) (λ _. and-false s.whole) (λ no. no)

none_left : (s : State) (J : List Entry) → settles s ≡ false → settles (state_from s J) ≡ false
none_left s [] none = none
none_left s (e ∷ J) none = none_left (after s e) J (noted_once (counted (moved s e.actor e.event e.reply)))

pub refused_counts_alone : RefusedCountsAlone
refused_counts_alone h J e legal refused =
    let s = state h J in
    let taken : IsStep s e = (steps_after h J (e ∷ []) legal).0 in
    let none : settles s ≡ false = none_left (start_of h) J refl in
    let same : moved s e.actor e.event e.reply ≡ s = ap (λ (b : Bool). cond b s (move s e.actor e.event (verdicts_in e.reply))) refused in
    record {
      state = state-push h J e ∙ ap (λ (t : State). settled (counted t)) same
          ∙ ap (λ (b : Bool). cond b (record (counted s) { steps = s.steps ++ step.Settled ∷ []; due = false }) (counted s)) none;
      settled = taken.settled ∙ ap settled_step same ∙ ap (λ (b : Bool). cond b (Some (length s.steps + 1)) None) none;
    }

-- ---- the history, event by event
changed_history : (s : State) (cs : List Change) (c : Option Open) → (changed_in s cs c).history ≡ s.history
changed_history s cs None = refl
changed_history s cs (Some o) = refl

edited_history : (s : State) (r : Result (List Change) EditRefusal) → (edited_by s r).history ≡ s.history
edited_history s (Ok cs) = changed_history s cs s.current
edited_history s (Err r) = refl

ended_open_history : (s : State) (o : Open) → ((ended_open s o).history ≡ s.history) ⊎ ((ended_open s o).history ≡ after_commit s.history o.work)
ended_open_history s o = cond_both (nat_lt 0 (length o.entries)) (record s { current = Some o }) (cond o.aborted (rollback s o) (commit s o.work (commit_step o)))
    (λ (t : State). (t.history ≡ s.history) ⊎ (t.history ≡ after_commit s.history o.work))
    (λ _. inl refl)
    (λ _. cond_both o.aborted (rollback s o) (commit s o.work (commit_step o)) (λ (t : State). (t.history ≡ s.history) ⊎ (t.history ≡ after_commit s.history o.work)) (λ _. inl refl) (λ _. inr refl))

ended_history : (s : State) (a : ℕ) (keep : Bool) (c : Option Open)
    → ((ended_in s a keep c).history ≡ s.history) ⊎ ((ended_in s a keep c).history ≡ after_commit s.history (work_in (base s) c))
ended_history s a keep None = inl refl
ended_history s a keep (Some o) = ended_open_history s (entry_ended a keep o)

closed_history : (s : State) (a : ℕ) (c : Option Open) → (closed_in s a c).history ≡ s.history
closed_history s a None = refl
closed_history s a (Some o) = cond_both (nat_lt 0 (count_of a o.entries) && (length (entries_aborted a o).entries == 0)) (rollback s (entries_aborted a o)) (record s { current = Some (entries_aborted a o) })
    (λ (t : State). t.history ≡ s.history) (λ _. refl) (λ _. refl)

-- a history that stays, or that gains a committed program
abbrev StaysOrCommits : History → History → Type 0
StaysOrCommits before after = (after ≡ before) ⊎ ((T : Program) × (after ≡ after_commit before T))

offered_history : (s : State) (a : ℕ) (b : Batch) (c : Option Open) → StaysOrCommits s.history (offered_in s a b c).history
offered_history s a b None = cond_both b.joined (commit (record s { queue = b.queue }) b.work (step.Commit a analysis_text b.changes)) (record s { queue = b.queue; current = None })
    (λ (t : State). StaysOrCommits s.history t.history) (λ _. inr (b.work, refl)) (λ _. inl refl)
offered_history s a b (Some o) = inl refl

job_history : (s : State) (a ticket : ℕ) (vs : List Verdict) (o : Option Job) → StaysOrCommits s.history (offered_job s a ticket vs o).history
job_history s a ticket vs None = inl refl
job_history s a ticket vs (Some job) = offered_history (record s { taken = other_jobs ticket s.taken }) a (judged_all s.enabled (first_batch s) job.items vs) s.current

move_history : (s : State) (a : ℕ) (e : Event) (vs : List Verdict) → MovesHistory s e (move s a e vs).history
move_history s a (event.Begin text) vs = refl
move_history s a (event.Edit e) vs = edited_history s (edit_of (work s) e)
move_history s a (event.End keep) vs = ended_history s a keep s.current
move_history s a event.Undo vs = refl
move_history s a event.Redo vs = refl
move_history s a event.Full vs = refl
move_history s a event.Cancel vs = refl
move_history s a (event.Enable z true) vs = refl
move_history s a (event.Enable z false) vs = refl
move_history s a event.Read vs = refl
move_history s a event.Wait vs = refl
move_history s a event.Close vs = closed_history (record s { open_sessions = without a s.open_sessions }) a s.current
move_history s a (event.Take n) vs = refl
move_history s a (event.Offer ticket) vs = job_history s a ticket vs (job_of ticket s.taken)

-- ---- each entry
settled_history : (s : State) → (settled (counted s)).history ≡ s.history
settled_history s = cond_both (settles (counted s)) (record (counted s) { steps = s.steps ++ step.Settled ∷ []; due = false }) (counted s) (λ (t : State). t.history ≡ s.history) (λ _. refl) (λ _. refl)

pub history_is_moved : HistoryIsMoved
history_is_moved h J e granted =
    let s = state h J in
    let m = moved s e.actor e.event e.reply in
    let same : m ≡ move s e.actor e.event (verdicts_in e.reply) = ap (λ (b : Bool). cond b s (move s e.actor e.event (verdicts_in e.reply))) granted in
    subst (MovesHistory s e.event) (sym (ap (λ (t : State). t.history) (state-push h J e) ∙ settled_history m ∙ ap (λ (t : State). t.history) same))
    (move_history s e.actor e.event (verdicts_in e.reply))
