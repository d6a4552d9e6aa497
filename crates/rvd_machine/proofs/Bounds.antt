-- What is bounded in the state after a legal journal. Use `legal_is_bounded`, and the lemmas on what gets shorter.
use Rattle.std.proofs.Common.{◌≡◌, ℕ, zero, suc, ◌+◌, ◌*◌, ◌≤◌, ◌<◌, Bool, true, false, cond, ◌&&◌, not, ◌==◌, nat_le, nat_lt, List, [], ◌∷◌, ◌++◌, length, filter, take, Option, Some, None, Result, Ok, Err, refl, sym, ap, ◌∙◌, subst, arith}
use Rattle.std.specs.Option.{MatchOption}
use Rattle.std.proofs.lemmas.Bool.{cond_both, leb-false}
use Rattle.std.proofs.lemmas.List.{length-append, length-take}
use Rattle.rvd_fact.specs.declared.cells.Change.{Change}
use Rattle.rvd_ask.specs.declared.asks.Analyzer.{Analyzer}
use Rattle.rvd_ask.specs.declared.asks.Item.{Item}
use Rattle.rvd_ask.specs.Unsettled.{candidates}
use Rattle.rvd_event.specs.declared.edits.EditRefusal.{EditRefusal}
use Rattle.rvd_event.specs.declared.events.Event.{Event}
use Rattle.rvd_event.specs.declared.events.Event.TheVariants as event
use Rattle.rvd_event.specs.declared.replies.Reply.{Reply}
use Rattle.rvd_event.specs.declared.replies.Refusal.{Refusal}
use Rattle.rvd_event.specs.declared.replies.Refusal.TheVariants as refusal
use Rattle.rvd_event.specs.declared.steps.Step.TheVariants as step
use Rattle.rvd_event.specs.declared.verdicts.Verdict.{Verdict}
use Rattle.rvd_trans.specs.declared.entries.Entry.{Entry as LiveEntry}
use Rattle.rvd_trans.specs.Entries.{count_of, has_of, without_newest, without_all}
use Rattle.rvd_journal.specs.declared.entries.Entry.{Entry}
use Rattle.rvd_edit.specs.Edits.{edit_of}
use Rattle.rvd_machine.specs.Enabled.{all_candidates}
use Rattle.rvd_machine.specs.State.{State, Open, Job, base, work, lives, lives_in, is_session, without, up_to, job_of, other_jobs}
use Rattle.rvd_machine.specs.Verdicts.{Batch, first_batch, judged_all}
use Rattle.rvd_machine.specs.Moves.{move, changed_in, edited_by, begun_in, ended_in, ended_open, entry_ended, closed_in, entries_aborted, kept_with, kept_without, kept_none, commit, commit_step, rollback, offered_in, offered_job, analysis_text, settled, settles}
use Rattle.rvd_machine.specs.Replies.{refused, refused_if, IsReply}
use Rattle.rvd_machine.specs.Steps.{Head, start_of, state_from, state, after, moved, counted, is_refused, verdicts_in, IsStep, AreSteps, IsLegal, AreJobs, IsBounded}
use Rattle.rvd_machine.proofs.Jobs.{jobs-none, jobs-others, jobs-push}
use Rattle.rvd_machine.proofs.Replied.{not_refused, few_given}

-- lists that lose elements, or gain one
pub without_newest-shorter : (a : ℕ) (es : List LiveEntry) → length (without_newest a es) ≤ length es
without_newest-shorter a [] = omega arith
without_newest-shorter a (e ∷ es) =
    let less = without_newest-shorter a es in
    cond_both (has_of a es) _ _ (λ (xs : List LiveEntry). length xs ≤ suc (length es)) (λ _. omega (arith, less))
    (λ _. cond_both (e.actor == a) _ _ (λ (xs : List LiveEntry). length xs ≤ suc (length es)) (λ _. omega arith) (λ _. omega arith))

pub filter-shorter : {A : Type 0} (p : A → Bool) (xs : List A) → length (filter p xs) ≤ length xs
filter-shorter p [] = omega arith
filter-shorter p (x ∷ xs) =
    let less = filter-shorter p xs in
    cond_both (p x) _ _ (λ ys. length ys ≤ suc (length xs)) (λ _. omega (arith, less)) (λ _. omega (arith, less))

one_more : {A : Type 0} (xs : List A) (x : A) → length (xs ++ x ∷ []) ≤ length xs + 1
one_more xs x = let e = length-append xs (x ∷ []) in omega (arith, e)

take-few : (n : ℕ) (items : List Item) → n ≤ 64 → length (take n items) ≤ 64
take-few n items few = let e = length-take n items in omega (arith, e, few)

pub length-up_to : (n : ℕ) → length (up_to n) ≡ n
length-up_to zero = refl
length-up_to (suc n) = length-append (up_to n) (suc n ∷ []) ∙ ap (λ k. k + 1) (length-up_to n) ∙ omega arith

-- what an event leaves bounded, before the journal counts it
record IsLeft (h : Head) (n : ℕ) (s : State) : Type 0 where
  sessions : s.sessions ≡ h.sessions
  workers : s.workers ≡ h.workers
  count : s.count ≡ n
  lives : lives s ≤ 64
  open_sessions : length s.open_sessions ≤ 16
  entries : s.next_entry ≤ n + 2
  tickets : s.next_ticket ≤ n + 2
  jobs : AreJobs 1 s.next_ticket s.taken
  steps : length s.steps ≤ 2 * n + 1

-- the parts that most events leave alone
abbrev Rest : Type 0
Rest = ℕ × ℕ × ℕ × ℕ × List Job × ℕ × List ℕ

abbrev rest : State → Rest
rest s = (s.sessions, s.workers, s.count, s.next_entry, s.taken, s.next_ticket, s.open_sessions)

-- an event that leaves them alone
like : (h : Head) (n : ℕ) (s t : State) → IsBounded h n s → rest t ≡ rest s → lives t ≤ 64 → length t.steps ≤ length s.steps + 1 → IsLeft h n t
like h n s t b same few more =
    let number : t.next_entry ≡ s.next_entry = ap (λ (r : Rest). r.3) same in
    let ticket : t.next_ticket ≡ s.next_ticket = ap (λ (r : Rest). r.5) same in
    record {
      sessions = ap (λ (r : Rest). r.0) same ∙ b.sessions;
      workers = ap (λ (r : Rest). r.1) same ∙ b.workers;
      count = ap (λ (r : Rest). r.2) same ∙ b.count;
      lives = few;
      open_sessions = subst (λ (r : Rest). length r.6 ≤ 16) (sym same) b.open_sessions;
      entries = omega (arith, number, b.entries);
      tickets = omega (arith, ticket, b.tickets);
      jobs = subst (λ (r : Rest). AreJobs 1 r.5 r.4) (sym same) b.jobs;
      steps = omega (arith, more, b.steps);
    }

same_steps : (s : State) → length s.steps ≤ length s.steps + 1
same_steps s = omega arith

-- a begin, an edit, an end, a close
few_begun : (s : State) (a : ℕ) (text : List ℕ) (c : Option Open) → lives_in c < 64 → lives_in (Some (begun_in s a text c)) ≤ 64
few_begun s a text None few = omega arith
few_begun s a text (Some o) few = let e = one_more o.entries (record { number = s.next_entry; actor = a }) in omega (arith, few, e)

left_changed : (h : Head) (n : ℕ) (s : State) (cs : List Change) (c : Option Open) → IsBounded h n s → lives_in c ≤ 64 → IsLeft h n (changed_in s cs c)
left_changed h n s cs None b few = like h n s _ b refl (omega arith) (same_steps s)
left_changed h n s cs (Some o) b few = like h n s _ b refl few (same_steps s)

left_edited : (h : Head) (n : ℕ) (s : State) → IsBounded h n s → (r : Result (List Change) EditRefusal) → IsLeft h n (edited_by s r)
left_edited h n s b (Ok cs) = left_changed h n s cs s.current b b.lives
left_edited h n s b (Err r) = like h n s s b refl b.lives (same_steps s)

left_ended_open : (h : Head) (n : ℕ) (s : State) (o : Open) → IsBounded h n s → length o.entries ≤ 64 → IsLeft h n (ended_open s o)
left_ended_open h n s o b few = cond_both (nat_lt 0 (length o.entries)) (record s { current = Some o }) (cond o.aborted (rollback s o) (commit s o.work (commit_step o))) (IsLeft h n)
    (λ _. like h n s _ b refl few (same_steps s))
    (λ _. cond_both o.aborted (rollback s o) (commit s o.work (commit_step o)) (IsLeft h n)
    (λ _. like h n s _ b refl (omega arith) (same_steps s))
    (λ _. like h n s _ b refl (omega arith) (one_more s.steps (commit_step o))))

left_ended : (h : Head) (n : ℕ) (s : State) (a : ℕ) (keep : Bool) (c : Option Open) → IsBounded h n s → lives_in c ≤ 64 → IsLeft h n (ended_in s a keep c)
left_ended h n s a keep None b few = like h n s _ b refl (omega arith) (same_steps s)
left_ended h n s a keep (Some o) b few =
    let shorter = without_newest-shorter a o.entries in
    left_ended_open h n s (entry_ended a keep o) b (omega (arith, shorter, few))

left_closed : (h : Head) (n : ℕ) (s : State) (a : ℕ) (c : Option Open) → IsBounded h n s → lives_in c ≤ 64 → IsLeft h n (closed_in s a c)
left_closed h n s a None b few = like h n s _ b refl (omega arith) (same_steps s)
left_closed h n s a (Some o) b few =
    let shorter = filter-shorter (λ (e : LiveEntry). not (e.actor == a)) o.entries in
    cond_both (nat_lt 0 (count_of a o.entries) && (length (without_all a o.entries) == 0)) (rollback s (entries_aborted a o)) (record s { current = Some (entries_aborted a o) }) (IsLeft h n)
    (λ _. like h n s _ b refl (omega arith) (same_steps s))
    (λ _. like h n s _ b refl (omega (arith, shorter, few)) (same_steps s))

fewer : (h : Head) (n : ℕ) (s : State) (a : ℕ) → IsBounded h n s → IsBounded h n (record s { open_sessions = without a s.open_sessions })
fewer h n s a b =
    let shorter = filter-shorter (λ (x : ℕ). not (x == a)) s.open_sessions in
    let few = b.open_sessions in
    record { sessions = b.sessions; workers = b.workers; count = b.count; lives = b.lives; open_sessions = omega (arith, shorter, few); entries = b.entries; tickets = b.tickets; jobs = b.jobs; steps = b.steps }

-- the events of analysis
few_with : (items : List Item) (c : Option Open) → lives_in c ≤ 64 → lives_in (kept_with items c) ≤ 64
few_with items None few = few
few_with items (Some o) few = few

left_turned : (h : Head) (n : ℕ) (s : State) (a : ℕ) (z : Analyzer) (on : Bool) → IsBounded h n s → IsLeft h n (move s a (event.Enable z on) [])
left_turned h n s a z true b = like h n s _ b refl (few_with (candidates (base s) z) s.current b.lives) (one_more s.steps (step.Enable a z true))
left_turned h n s a z false b = like h n s _ b refl (few s.current b.lives) (one_more s.steps (step.Enable a z false))
  where
    few : (c : Option Open) → lives_in c ≤ 64 → lives_in (kept_without z c) ≤ 64
    few None le = le
    few (Some o) le = le

few_none : (c : Option Open) → lives_in c ≤ 64 → lives_in (kept_none c) ≤ 64
few_none None few = few
few_none (Some o) few = few

left_offered : (h : Head) (n : ℕ) (s : State) (a : ℕ) (t : Batch) (c : Option Open) → IsBounded h n s → lives_in c ≤ 64 → IsLeft h n (offered_in s a t c)
left_offered h n s a t None b few = cond_both t.joined (commit (record s { queue = t.queue }) t.work (step.Commit a analysis_text t.changes)) (record s { queue = t.queue; current = None }) (IsLeft h n)
    (λ _. like h n s _ b refl (omega arith) (one_more s.steps (step.Commit a analysis_text t.changes)))
    (λ _. like h n s _ b refl (omega arith) (same_steps s))
left_offered h n s a t (Some o) b few = like h n s _ b refl few (same_steps s)

left_job : (h : Head) (n : ℕ) (s : State) (a ticket : ℕ) (vs : List Verdict) (job : Option Job) → IsBounded h n s → IsLeft h n (offered_job s a ticket vs job)
left_job h n s a ticket vs None b = like h n s s b refl b.lives (same_steps s)
left_job h n s a ticket vs (Some job) b = left_offered h n (record s { taken = other_jobs ticket s.taken }) a (judged_all s.enabled (first_batch s) job.items vs) s.current
    (record { sessions = b.sessions; workers = b.workers; count = b.count; lives = b.lives; open_sessions = b.open_sessions; entries = b.entries; tickets = b.tickets; jobs = jobs-others ticket 1 s.next_ticket s.taken b.jobs; steps = b.steps })
    b.lives

left_taken : (h : Head) (n : ℕ) (s : State) (a k : ℕ) → k ≤ 64 → IsBounded h n s → IsLeft h n (move s a (event.Take k) [])
left_taken h n s a k few b = record {
  sessions = b.sessions;
  workers = b.workers;
  count = b.count;
  lives = b.lives;
  open_sessions = b.open_sessions;
  entries = omega (arith, b.entries);
  tickets = omega (arith, b.tickets);
  jobs = jobs-push 1 s.taken (record { ticket = s.next_ticket; items = take k s.queue; program = work s }) b.jobs (take-few k s.queue few);
  steps = omega (arith, b.steps);
}

-- where a begin isn't refused there is room for its entry
some-none : (r : Refusal) → Some r ≡ None → ⊥
some-none r h = subst (λ (o : Option Refusal). MatchOption o ⊥ (λ _. Unit {0})) h tt

none_if : (t : Bool) (r : Refusal) → refused_if t r ≡ None → t ≡ false
none_if true r h = absurd (some-none r h)
none_if false r h = refl

none_in : (t : Bool) (a : Option Refusal) (r : Refusal) → cond t a (Some r) ≡ None → a ≡ None
none_in true a r h = h
none_in false a r h = absurd (some-none r h)

room : (s : State) (a : ℕ) (text : List ℕ) → refused s a (event.Begin text) ≡ None → lives s < 64
room s a text granted = leb-false 64 (lives s) (none_if (nat_le 64 (lives s)) refusal.TooManyEntries (none_in (is_session a s.open_sessions) _ refusal.NoSession granted))

left_begun : (h : Head) (n : ℕ) (s : State) (a : ℕ) (text : List ℕ) → lives s < 64 → IsBounded h n s → IsLeft h n (move s a (event.Begin text) [])
left_begun h n s a text few b = record {
  sessions = b.sessions;
  workers = b.workers;
  count = b.count;
  lives = few_begun s a text s.current few;
  open_sessions = b.open_sessions;
  entries = omega (arith, b.entries);
  tickets = omega (arith, b.tickets);
  jobs = b.jobs;
  steps = omega (arith, b.steps);
}

-- an event with its reply, which may refuse
unless : (h : Head) (n : ℕ) (s t : State) (b : Bool) → IsBounded h n s → (b ≡ false → IsLeft h n t) → IsLeft h n (cond b s t)
unless h n s t true b left = like h n s s b refl b.lives (same_steps s)
unless h n s t false b left = left refl

left_moved : (h : Head) (n : ℕ) (s : State) (a : ℕ) (e : Event) (r : Reply) → IsBounded h n s → IsReply s a e r → IsLeft h n (moved s a e r)
left_moved h n s a (event.Begin text) r b said = unless h n s _ (is_refused r) b (λ granted. left_begun h n s a text (room s a text (not_refused s a (event.Begin text) (refused s a (event.Begin text)) r said granted)) b)
left_moved h n s a (event.Edit e) r b said = unless h n s _ (is_refused r) b (λ _. left_edited h n s b (edit_of (work s) e))
left_moved h n s a (event.End keep) r b said = unless h n s _ (is_refused r) b (λ _. left_ended h n s a keep s.current b b.lives)
left_moved h n s a event.Undo r b said = unless h n s _ (is_refused r) b (λ _. like h n s _ b refl b.lives (one_more s.steps (step.Undo a)))
left_moved h n s a event.Redo r b said = unless h n s _ (is_refused r) b (λ _. like h n s _ b refl b.lives (one_more s.steps (step.Redo a)))
left_moved h n s a event.Full r b said = unless h n s _ (is_refused r) b (λ _. like h n s _ b refl (few_with (all_candidates s.enabled (base s)) s.current b.lives) (one_more s.steps (step.Full a)))
left_moved h n s a event.Cancel r b said = unless h n s _ (is_refused r) b (λ _. record {
  sessions = b.sessions;
  workers = b.workers;
  count = b.count;
  lives = few_none s.current b.lives;
  open_sessions = b.open_sessions;
  entries = omega (arith, b.entries);
  tickets = omega (arith, b.tickets);
  jobs = jobs-none 1 s.next_ticket s.taken b.jobs;
  steps = let more = one_more s.steps (step.Cancel a) in omega (arith, more, b.steps);
})
left_moved h n s a (event.Enable z on) r b said = unless h n s _ (is_refused r) b (λ _. left_turned h n s a z on b)
left_moved h n s a event.Read r b said = unless h n s _ (is_refused r) b (λ _. like h n s s b refl b.lives (same_steps s))
left_moved h n s a event.Wait r b said = unless h n s _ (is_refused r) b (λ _. like h n s s b refl b.lives (same_steps s))
left_moved h n s a event.Close r b said = unless h n s _ (is_refused r) b (λ _. left_closed h n (record s { open_sessions = without a s.open_sessions }) a s.current (fewer h n s a b) b.lives)
left_moved h n s a (event.Take k) r b said = unless h n s _ (is_refused r) b (λ _. left_taken h n s a k (few_given s k r said) b)
left_moved h n s a (event.Offer t) r b said = unless h n s _ (is_refused r) b (λ _. left_job h n s a t (verdicts_in r) (job_of t s.taken) b)

-- the count, and the Settled step
bounded_settled : (h : Head) (n : ℕ) (s : State) → IsLeft h n s → IsBounded h (n + 1) (settled (counted s))
bounded_settled h n s left = cond_both (settles (counted s)) (record (counted s) { steps = s.steps ++ step.Settled ∷ []; due = false }) (counted s) (IsBounded h (n + 1))
    (λ _. let more = one_more s.steps step.Settled in record { sessions = left.sessions; workers = left.workers; count = ap (λ k. k + 1) left.count; lives = left.lives; open_sessions = left.open_sessions; entries = omega (arith, left.entries); tickets = omega (arith, left.tickets); jobs = left.jobs; steps = omega (arith, more, left.steps) })
    (λ _. record { sessions = left.sessions; workers = left.workers; count = ap (λ k. k + 1) left.count; lives = left.lives; open_sessions = left.open_sessions; entries = omega (arith, left.entries); tickets = omega (arith, left.tickets); jobs = left.jobs; steps = omega (arith, left.steps) })

bounded_after : (h : Head) (n : ℕ) (s : State) (e : Entry) → IsBounded h n s → IsStep s e → IsBounded h (n + 1) (after s e)
bounded_after h n s e b step = bounded_settled h n (moved s e.actor e.event e.reply) (left_moved h n s e.actor e.event e.reply b step.reply)

bounded_from : (h : Head) (n : ℕ) (s : State) (J : List Entry) → IsBounded h n s → AreSteps s J → IsBounded h (n + length J) (state_from s J)
bounded_from h n s [] b steps = subst (λ k. IsBounded h k s) (omega arith) b
bounded_from h n s (e ∷ J) b steps = subst (λ k. IsBounded h k (state_from (after s e) J)) (omega arith) (bounded_from h (n + 1) (after s e) J (bounded_after h n s e b steps.0) steps.1)

pub legal_is_bounded : (h : Head) (J : List Entry) → IsLegal h J → IsBounded h (length J) (state h J)
legal_is_bounded h J legal =
    let start : IsBounded h 0 (start_of h) = record { sessions = refl; workers = refl; count = refl; lives = omega arith; open_sessions = subst (λ k. k ≤ 16) (sym (length-up_to h.sessions)) legal.sessions.1; entries = omega arith; tickets = omega arith; jobs = omega arith; steps = omega arith } in
    subst (λ n. IsBounded h n (state h J)) (omega arith) (bounded_from h 0 (start_of h) J start legal.steps)
