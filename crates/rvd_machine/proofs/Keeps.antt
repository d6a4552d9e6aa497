-- Each event but those of analysis keeps the state sound. Use `begin_keeps`, `edit_keeps`, `end_keeps`, `close_keeps`,
-- `undo_keeps` and `redo_keeps`, and `settled_keeps` for what comes last.
use Rattle.std.proofs.Common.{◌≡◌, ℕ, zero, suc, ◌+◌, Bool, true, false, cond, ◌&&◌, nat_lt, ◌==◌, List, [], ◌∷◌, ◌++◌, length, take, Option, Some, None, Result, Ok, Err, refl, sym, ◌∙◌}
use Rattle.std.proofs.lemmas.Bool.{cond_both, or_parts, or_from, false≢true, true≢false}
use Rattle.rvd_fact.specs.declared.cells.Change.{Change}
use Rattle.rvd_fact.specs.Program.{Program}
use Rattle.rvd_fact.specs.Valid.{IsValid}
use Rattle.rvd_ask.specs.Unsettled.{has_item}
use Rattle.rvd_event.specs.declared.edits.Edit.{Edit}
use Rattle.rvd_event.specs.declared.edits.EditRefusal.{EditRefusal}
use Rattle.rvd_event.specs.Edits.{is_edit}
use Rattle.rvd_event.specs.declared.steps.Step.{Step}
use Rattle.rvd_event.specs.declared.steps.Step.TheVariants as step
use Rattle.rvd_trans.specs.Entries.{count_of}
use Rattle.rvd_undo.specs.History.{History, undo_to, redo_to}
use Rattle.rvd_edit.specs.Edits.{edit_of}
use Rattle.rvd_queue.specs.Sets.{with_all}
use Rattle.rvd_queue.proofs.ItemSets.{has_item-with_all}
use Rattle.rvd_wake.specs.Laws.{LeadAll}
use Rattle.rvd_machine.specs.Enabled.{woken_into}
use Rattle.rvd_machine.specs.State.{State, Open, base, work, work_in, is_taken, taken_items, without}
use Rattle.rvd_machine.specs.Moves.{stepped, commit, rollback, begun_in, begun, changed_in, edited_by, edited, entry_ended, commit_step, ended_open, ended_in, entries_aborted, closed_open, closed_in, closed, undone, redone, settles, settled}
use Rattle.rvd_machine.specs.Steps.{counted}
use Rattle.rvd_machine.specs.Sound.{Sound, AreAllValid, AreValid}
use Rattle.rvd_machine.proofs.Members.{is_taken-items, not_woken}
use Rattle.rvd_machine.proofs.Leads.{Laws, edits_lead, wake_all, valid_all}

pub valid_take : (n : ℕ) (programs : List Program) → AreValid programs → AreValid (take n programs)
valid_take zero programs v = tt
valid_take (suc n) [] v = tt
valid_take (suc n) (p ∷ programs) v = (v.0, valid_take n programs v.1)

-- ---- a begin
begin_keeps_in : (s : State) (a : ℕ) (text : List ℕ) (c : Option Open) → Sound (record s { current = c }) → Sound (record s { current = Some (begun_in s a text c); next_entry = s.next_entry + 1 })
begin_keeps_in s a text None h = record {
  valid = record { base = h.valid.base; work = h.valid.base; past = h.valid.past; undone = h.valid.undone; taken = h.valid.taken };
  none_lost = record {
    work = h.none_lost.work;
    base = λ whole i on none.
        let parts = or_parts (has_item i (taken_items s.taken)) (has_item i s.queue) (sym (has_item-with_all i (taken_items s.taken) s.queue) ∙ none) in
        h.none_lost.work whole i on (or_from (has_item i s.queue) (is_taken i s.taken) parts.1 (sym (is_taken-items i s.taken) ∙ parts.0));
  };
}
begin_keeps_in s a text (Some o) h = record {
  valid = record { base = h.valid.base; work = h.valid.work; past = h.valid.past; undone = h.valid.undone; taken = h.valid.taken };
  none_lost = record { work = h.none_lost.work; base = h.none_lost.base };
}

pub begin_keeps : (s : State) (a : ℕ) (text : List ℕ) → Sound s → Sound (begun s a text)
begin_keeps s a text h = begin_keeps_in s a text s.current h

-- ---- an edit
changed_keeps : Laws → (s : State) (cs : List Change) (c : Option Open) → LeadAll (work_in (base s) c) cs → Sound (record s { current = c }) → Sound (changed_in s cs c)
changed_keeps L s cs None lead h = h
changed_keeps L s cs (Some o) lead h = record {
  valid = record { base = h.valid.base; work = valid_all cs o.work h.valid.work lead; past = h.valid.past; undone = h.valid.undone; taken = h.valid.taken };
  none_lost = record {
    work = λ whole i on none.
        let parts = or_parts (has_item i (woken_into s.enabled o.work cs s.queue)) (is_taken i s.taken) none in
        let apart = not_woken i s.enabled on cs o.work s.queue parts.0 in
        wake_all L.analysis cs o.work i lead apart.0 (h.none_lost.work whole i on (or_from (has_item i s.queue) (is_taken i s.taken) apart.1 parts.1));
    base = h.none_lost.base;
  };
}

edited_keeps : Laws → (s : State) (e : Edit) (r : Result (List Change) EditRefusal) → is_edit e ≡ true → edit_of (work s) e ≡ r → Sound s → Sound (edited_by s r)
edited_keeps L s e (Err r) legal is h = h
edited_keeps L s e (Ok cs) legal is h = changed_keeps L s cs s.current (edits_lead (work s) cs h.valid.work (L.edits_fit (work s) e cs h.valid.work legal is) (L.no_analysis (work s) e cs is)) h

pub edit_keeps : Laws → (s : State) (e : Edit) → is_edit e ≡ true → Sound s → Sound (edited s e)
edit_keeps L s e legal h = edited_keeps L s e (edit_of (work s) e) legal refl h

-- ---- a commit of the working program, and a rollback
commit_keeps : (s : State) (o : Open) (x : Step) → Sound (record s { current = Some o }) → Sound (commit s o.work x)
commit_keeps s o x h = record {
  valid = record { base = h.valid.work; work = h.valid.work; past = valid_take 50 (base s ∷ s.history.past) (h.valid.base, h.valid.past); undone = tt; taken = h.valid.taken };
  none_lost = record { work = h.none_lost.work; base = λ whole i on none. absurd (true≢false none) };
}

rollback_keeps : (s : State) (o : Open) → Sound (record s { current = Some o }) → Sound (rollback s o)
rollback_keeps s o h = record {
  valid = record { base = h.valid.base; work = h.valid.base; past = h.valid.past; undone = h.valid.undone; taken = h.valid.taken };
  none_lost = record {
    work = λ whole i on none.
        let parts = or_parts (has_item i (with_all o.kept s.queue)) (is_taken i s.taken) none in
        h.none_lost.base whole i on (or_parts (has_item i o.kept) (has_item i s.queue) (sym (has_item-with_all i o.kept s.queue) ∙ parts.0)).0;
    base = λ whole i on none. absurd (true≢false none);
  };
}

-- ---- an end and a close: entries of the transaction change
ended_keeps : (s : State) (o : Open) → Sound (record s { current = Some o }) → Sound (ended_open s o)
ended_keeps s o h = cond_both (nat_lt 0 (length o.entries)) (record s { current = Some o }) (cond o.aborted (rollback s o) (commit s o.work (commit_step o))) Sound
    (λ _. h)
    (λ _. cond_both o.aborted (rollback s o) (commit s o.work (commit_step o)) Sound (λ _. rollback_keeps s o h) (λ _. commit_keeps s o (commit_step o) h))

pub end_keeps : (s : State) (a : ℕ) (keep : Bool) (c : Option Open) → Sound (record s { current = c }) → Sound (ended_in s a keep c)
end_keeps s a keep None h = h
end_keeps s a keep (Some o) h = ended_keeps s (entry_ended a keep o) (record {
  valid = record { base = h.valid.base; work = h.valid.work; past = h.valid.past; undone = h.valid.undone; taken = h.valid.taken };
  none_lost = record { work = h.none_lost.work; base = h.none_lost.base };
})

closed_keeps : (s : State) (n : ℕ) (o : Open) → Sound (record s { current = Some o }) → Sound (closed_open s n o)
closed_keeps s n o h = cond_both (nat_lt 0 n && (length o.entries == 0)) (rollback s o) (record s { current = Some o }) Sound (λ _. rollback_keeps s o h) (λ _. h)

close_keeps_in : (s : State) (a : ℕ) (c : Option Open) → Sound (record s { current = c }) → Sound (closed_in s a c)
close_keeps_in s a None h = h
close_keeps_in s a (Some o) h = closed_keeps s (count_of a o.entries) (entries_aborted a o) (record {
  valid = record { base = h.valid.base; work = h.valid.work; past = h.valid.past; undone = h.valid.undone; taken = h.valid.taken };
  none_lost = record { work = h.none_lost.work; base = h.none_lost.base };
})

pub close_keeps : (s : State) (a : ℕ) → Sound s → Sound (closed s a)
close_keeps s a h = close_keeps_in (record s { open_sessions = without a s.open_sessions }) a s.current (record {
  valid = record { base = h.valid.base; work = h.valid.work; past = h.valid.past; undone = h.valid.undone; taken = h.valid.taken };
  none_lost = record { work = h.none_lost.work; base = h.none_lost.base };
})

-- ---- an undo and a redo: no whole analysis stands any more
record IsValidHistory (h : History) : Type 0 where
  now : IsValid h.now
  past : AreValid h.past
  undone : AreValid h.undone

valid_undo : (h : History) (programs : List Program) → IsValidHistory (record h { past = programs }) → IsValidHistory (undo_to (record h { past = programs }) programs)
valid_undo h [] v = v
valid_undo h (p ∷ programs) v = record { now = v.past.0; past = v.past.1; undone = (v.now, v.undone) }

valid_redo : (h : History) (programs : List Program) → IsValidHistory (record h { undone = programs }) → IsValidHistory (redo_to (record h { undone = programs }) programs)
valid_redo h [] v = v
valid_redo h (p ∷ programs) v = record { now = v.undone.0; past = (v.now, v.past); undone = v.undone.1 }

moved_base : (old new : Program) (c : Option Open) → IsValid new → IsValid (work_in old c) → IsValid (work_in new c)
moved_base old new None valid before = valid
moved_base old new (Some o) valid before = before

unwhole : (s : State) (h : History) → IsValidHistory h → AreAllValid s → Sound (record s { history = h; whole = false })
unwhole s h v valid = record {
  valid = record { base = v.now; work = moved_base (base s) h.now s.current v.now valid.work; past = v.past; undone = v.undone; taken = valid.taken };
  none_lost = record { work = λ whole. absurd (false≢true whole); base = λ whole. absurd (false≢true whole) };
}

history_of : (s : State) → AreAllValid s → IsValidHistory s.history
history_of s valid = record { now = valid.base; past = valid.past; undone = valid.undone }

pub undo_keeps : (s : State) → Sound s → Sound (undone s)
undo_keeps s h = unwhole s (undo_to s.history s.history.past) (valid_undo s.history s.history.past (history_of s h.valid)) h.valid

pub redo_keeps : (s : State) → Sound s → Sound (redone s)
redo_keeps s h = unwhole s (redo_to s.history s.history.undone) (valid_redo s.history s.history.undone (history_of s h.valid)) h.valid

-- ---- a step that is noted, the count, and the Settled step
pub stepped_keeps : (s : State) (x : Step) → Sound s → Sound (stepped s x)
stepped_keeps s x h = record {
  valid = record { base = h.valid.base; work = h.valid.work; past = h.valid.past; undone = h.valid.undone; taken = h.valid.taken };
  none_lost = record { work = h.none_lost.work; base = h.none_lost.base };
}

pub settled_keeps : (s : State) → Sound s → Sound (settled (counted s))
settled_keeps s h = cond_both (settles (counted s)) (record (counted s) { steps = s.steps ++ step.Settled ∷ []; due = false }) (counted s) Sound
    (λ _. record {
      valid = record { base = h.valid.base; work = h.valid.work; past = h.valid.past; undone = h.valid.undone; taken = h.valid.taken };
      none_lost = record { work = h.none_lost.work; base = h.none_lost.base };
    })
    (λ _. record {
      valid = record { base = h.valid.base; work = h.valid.work; past = h.valid.past; undone = h.valid.undone; taken = h.valid.taken };
      none_lost = record { work = h.none_lost.work; base = h.none_lost.base };
    })
