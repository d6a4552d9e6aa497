-- What each event makes of the state where it isn't refused, and what follows each event. Use `move` for an event,
-- `commit` and `rollback` for the two ends of a transaction, and `settled` for what comes last.
use Rattle.std.specs.Prelude.{ℕ, ◌+◌, Bool, true, false, ◌&&◌, ◌||◌, not, nat_lt, ◌==◌, List, [], ◌∷◌, ◌++◌, length, take, drop, Option, Some, None, Result, Ok, Err, if◌then◌else◌}
use Rattle.rvd_fact.specs.declared.cells.Change.{Change}
use Rattle.rvd_fact.specs.Program.{Program, applied_all}
use Rattle.rvd_ask.specs.declared.asks.Analyzer.{Analyzer}
use Rattle.rvd_ask.specs.declared.asks.Item.{Item}
use Rattle.rvd_ask.specs.Unsettled.{candidates}
use Rattle.rvd_event.specs.declared.edits.Edit.{Edit}
use Rattle.rvd_event.specs.declared.edits.EditRefusal.{EditRefusal}
use Rattle.rvd_event.specs.declared.events.Event.{Event}
use Rattle.rvd_event.specs.declared.events.Event.TheVariants as event
use Rattle.rvd_event.specs.declared.steps.Step.{Step}
use Rattle.rvd_event.specs.declared.steps.Step.TheVariants as step
use Rattle.rvd_event.specs.declared.verdicts.Verdict.{Verdict}
use Rattle.rvd_trans.specs.Entries.{count_of, has_of, without_newest, without_all}
use Rattle.rvd_undo.specs.History.{after_commit, after_undo, after_redo}
use Rattle.rvd_edit.specs.Edits.{edit_of}
use Rattle.rvd_queue.specs.Sets.{with_all, without_analyzer}
use Rattle.rvd_machine.specs.Enabled.{switched, woken_into, all_candidates}
use Rattle.rvd_machine.specs.State.{State, Open, Job, base, work, without, taken_items, job_of, other_jobs, is_quiet}
use Rattle.rvd_machine.specs.Verdicts.{Batch, first_batch, judged_all}

-- a step is noted
abbrev pub stepped : State → Step → State
stepped s x = record s { steps = s.steps ++ x ∷ [] }

-- a commit: the transaction ends, its program is the committed one, and the end of a whole analysis is due
abbrev pub commit : State → Program → Step → State
commit s T x = record s { history = after_commit s.history T; steps = s.steps ++ x ∷ []; current = None; due = true }

-- a rollback: the transaction ends, the committed program stays, and what was kept joins the queue
abbrev pub rollback : State → Open → State
rollback s o = record s { current = None; queue = with_all o.kept s.queue }

-- a begin: an entry opens a transaction, which keeps the queued and the taken items, or joins the open one
abbrev pub begun_in : State → ℕ → List ℕ → Option Open → Open
begun_in s actor text None = record {
  work = base s;
  opener = actor;
  text = text;
  entries = record { number = s.next_entry; actor = actor } ∷ [];
  aborted = false;
  changes = 0;
  kept = with_all (taken_items s.taken) s.queue;
}
begun_in s actor text (Some o) = record o { entries = o.entries ++ record { number = s.next_entry; actor = actor } ∷ [] }

abbrev pub begun : State → ℕ → List ℕ → State
begun s actor text = record s { current = Some (begun_in s actor text s.current); next_entry = s.next_entry + 1 }

-- an edit: its changes are applied to the working program, and what they wake joins the queue
abbrev pub changed_in : State → List Change → Option Open → State
changed_in s changes None = record s { current = None }
changed_in s changes (Some o) = record s {
  current = Some (record o { work = applied_all o.work changes; changes = o.changes + length changes });
  queue = woken_into s.enabled o.work changes s.queue;
}

abbrev pub edited_by : State → Result (List Change) EditRefusal → State
edited_by s (Ok changes) = changed_in s changes s.current
edited_by s (Err refusal) = s

abbrev pub edited : State → Edit → State
edited s e = edited_by s (edit_of (work s) e)

-- an end: the actor's newest live entry ends, and with the last one the transaction, by a commit where none aborted
abbrev pub entry_ended : ℕ → Bool → Open → Open
entry_ended actor keep o = record o { entries = without_newest actor o.entries; aborted = o.aborted || not keep }

abbrev pub commit_step : Open → Step
commit_step o = step.Commit o.opener o.text o.changes

abbrev pub ended_open : State → Open → State
ended_open s o =
    if nat_lt 0 (length o.entries) then record s { current = Some o }
    else if o.aborted then rollback s o
    else commit s o.work (commit_step o)

abbrev pub ended_in : State → ℕ → Bool → Option Open → State
ended_in s actor keep None = record s { current = None }
ended_in s actor keep (Some o) = ended_open s (entry_ended actor keep o)

-- a close: the session closes, its live entries abort, and a transaction of which none is left is rolled back
abbrev pub entries_aborted : ℕ → Open → Open
entries_aborted actor o = record o { entries = without_all actor o.entries; aborted = o.aborted || has_of actor o.entries }

abbrev pub closed_open : State → ℕ → Open → State
closed_open s n o = if nat_lt 0 n && (length o.entries == 0) then rollback s o else record s { current = Some o }

abbrev pub closed_in : State → ℕ → Option Open → State
closed_in s actor None = record s { current = None }
closed_in s actor (Some o) = closed_open s (count_of actor o.entries) (entries_aborted actor o)

abbrev pub closed : State → ℕ → State
closed s actor = closed_in (record s { open_sessions = without actor s.open_sessions }) actor s.current

-- an undo and a redo move through the history, and no whole analysis stands any more; queue and jobs stay
abbrev pub undone : State → State
undone s = record s { history = after_undo s.history; whole = false }

abbrev pub redone : State → State
redone s = record s { history = after_redo s.history; whole = false }

-- items of the working and of the committed program join the queue, and the latter the kept ones
abbrev pub kept_with : List Item → Option Open → Option Open
kept_with items None = None
kept_with items (Some o) = Some (record o { kept = with_all items o.kept })

abbrev pub gained : State → List Item → List Item → State
gained s of_work of_base = record s { queue = with_all of_work (with_all of_base s.queue); current = kept_with of_base s.current }

-- a whole analysis is asked for: all candidates are queued
abbrev pub filled : State → State
filled s =
    let t = gained s (all_candidates s.enabled (work s)) (all_candidates s.enabled (base s)) in
    record t { whole = true; due = true }

-- an analyzer is enabled, and its candidates are queued; or it is disabled, and its items leave
abbrev pub turned_on : State → Analyzer → State
turned_on s a =
    let t = gained s (candidates (work s) a) (candidates (base s) a) in
    record t { enabled = switched s.enabled a true; due = true }

abbrev pub kept_without : Analyzer → Option Open → Option Open
kept_without a None = None
kept_without a (Some o) = Some (record o { kept = without_analyzer a o.kept })

abbrev pub turned_off : State → Analyzer → State
turned_off s a = record s { enabled = switched s.enabled a false; queue = without_analyzer a s.queue; current = kept_without a s.current }

abbrev pub turned : State → Analyzer → Bool → State
turned s a true = turned_on s a
turned s a false = turned_off s a

-- a cancel: nothing is queued, taken or kept
abbrev pub kept_none : Option Open → Option Open
kept_none None = None
kept_none (Some o) = Some (record o { kept = [] })

abbrev pub cancelled : State → State
cancelled s = record s { queue = []; taken = []; current = kept_none s.current; whole = false }

-- a take: the least n queued items become a job on the working program
abbrev pub taken_by : State → ℕ → State
taken_by s n = record s {
  queue = drop n s.queue;
  taken = s.taken ++ record { ticket = s.next_ticket; items = take n s.queue; program = work s } ∷ [];
  next_ticket = s.next_ticket + 1;
}

-- the text `Analysis`
abbrev pub analysis_text : List ℕ
analysis_text = 65 ∷ 110 ∷ 97 ∷ 108 ∷ 121 ∷ 115 ∷ 105 ∷ 115 ∷ []

-- an offer that is judged: what joined is part of the open transaction, or else a transaction of its own
abbrev pub offered_in : State → ℕ → Batch → Option Open → State
offered_in s actor b None =
    if b.joined then commit (record s { queue = b.queue }) b.work (step.Commit actor analysis_text b.changes)
    else record s { queue = b.queue; current = None }
offered_in s actor b (Some o) = record s { queue = b.queue; current = Some (record o { work = b.work; changes = o.changes + b.changes }) }

abbrev pub offered_job : State → ℕ → ℕ → List Verdict → Option Job → State
offered_job s actor ticket verdicts None = s
offered_job s actor ticket verdicts (Some job) =
    offered_in (record s { taken = other_jobs ticket s.taken }) actor (judged_all s.enabled (first_batch s) job.items verdicts) s.current

abbrev pub offered : State → ℕ → ℕ → List Verdict → State
offered s actor ticket verdicts = offered_job s actor ticket verdicts (job_of ticket s.taken)

-- what an event makes of the state; the verdicts are those of an offer
abbrev pub move : State → ℕ → Event → List Verdict → State
move s actor (event.Begin text) verdicts = begun s actor text
move s actor (event.Edit e) verdicts = edited s e
move s actor (event.End keep) verdicts = ended_in s actor keep s.current
move s actor event.Undo verdicts = stepped (undone s) (step.Undo actor)
move s actor event.Redo verdicts = stepped (redone s) (step.Redo actor)
move s actor event.Full verdicts = stepped (filled s) (step.Full actor)
move s actor event.Cancel verdicts = stepped (cancelled s) (step.Cancel actor)
move s actor (event.Enable a on) verdicts = stepped (turned s a on) (step.Enable actor a on)
move s actor event.Read verdicts = s
move s actor event.Wait verdicts = s
move s actor event.Close verdicts = closed s actor
move s actor (event.Take n) verdicts = taken_by s n
move s actor (event.Offer ticket) verdicts = offered s actor ticket verdicts

-- after each event: where a whole analysis stands, its end is due and nothing is left to do, a Settled step is noted
abbrev pub settles : State → Bool
settles s = s.whole && (s.due && is_quiet s)

abbrev pub settled : State → State
settled s = if settles s then record s { steps = s.steps ++ step.Settled ∷ []; due = false } else s

abbrev pub settled_step : State → Option ℕ
settled_step s = if settles s then Some (length s.steps + 1) else None
