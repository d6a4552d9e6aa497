-- A legal journal keeps a room for the end of each live entry and for the close of each open session. Use `legal_keeps_rooms`.
use Rattle.std.proofs.Common.{◌≡◌, ℕ, suc, ◌+◌, ◌≤◌, Bool, true, false, cond, ◌&&◌, ◌||◌, not, ◌==◌, nat_le, nat_lt, List, [], ◌∷◌, ◌++◌, length, Option, Some, None, ◌⊎◌, inl, inr, Result, Ok, Err, refl, sym, ap, ◌∙◌, subst, arith}
use Rattle.std.proofs.lemmas.Bool.{cond_both, false≢true, true≢false, leb-true, ltb-true, or_cases, or_left, or_right, eqb-true, eq-eqb}
use Rattle.std.proofs.lemmas.List.{length-append}
use Rattle.std.proofs.lemmas.List.Sums.{sum_by-cons}
use Rattle.std.proofs.lemmas.Option.{none-some, same_Some}
use Rattle.rvd_fact.specs.declared.cells.Change.{Change}
use Rattle.rvd_ask.specs.declared.asks.Analyzer.{Analyzer}
use Rattle.rvd_ask.specs.declared.asks.Item.{Item}
use Rattle.rvd_ask.specs.Unsettled.{candidates}
use Rattle.rvd_event.specs.declared.edits.EditRefusal.{EditRefusal}
use Rattle.rvd_event.specs.declared.events.Event.{Event}
use Rattle.rvd_event.specs.declared.events.Event.TheVariants as event
use Rattle.rvd_event.specs.declared.replies.Reply.{Reply}
use Rattle.rvd_event.specs.declared.replies.Reply.TheVariants as reply
use Rattle.rvd_event.specs.declared.replies.Refusal.{Refusal}
use Rattle.rvd_event.specs.declared.replies.Refusal.TheVariants as refusal
use Rattle.rvd_event.specs.declared.steps.Step.TheVariants as step
use Rattle.rvd_event.specs.declared.verdicts.Verdict.{Verdict}
use Rattle.rvd_trans.specs.declared.entries.Entry.{Entry as LiveEntry}
use Rattle.rvd_trans.specs.Entries.{count_of, has_of, without_newest, without_all}
use Rattle.rvd_journal.specs.declared.entries.Entry.{Entry}
use Rattle.rvd_edit.specs.Edits.{edit_of}
use Rattle.rvd_machine.specs.Enabled.{all_candidates}
use Rattle.rvd_machine.specs.State.{State, Open, Job, base, work, lives_in, lives_of, lives_of_in, is_session, without, job_of, other_jobs}
use Rattle.rvd_machine.specs.Verdicts.{Batch, first_batch, judged_all}
use Rattle.rvd_machine.specs.Moves.{move, changed_in, edited_by, begun_in, ended_in, ended_open, entry_ended, closed_in, closed_open, entries_aborted, kept_with, kept_without, kept_none, commit, commit_step, rollback, offered_in, offered_job, analysis_text, settled, settles}
use Rattle.rvd_machine.specs.Replies.{answered, refused, refused_if, end_reply, end_reply_open, next_step, IsReply}
use Rattle.rvd_machine.specs.Steps.{Head, start_of, state_from, state, after, moved, counted, is_refused, verdicts_in, has_room, kept_rooms, max_entries, AreSteps, IsLegal}
use Rattle.rvd_machine.proofs.Bounds.{without_newest-shorter, filter-shorter, length-up_to}
use Rattle.rvd_machine.proofs.Replied.{not_refused}

-- ---- live entries and their sessions
has-cons : (a : ℕ) (e : LiveEntry) (es : List LiveEntry) → has_of a (e ∷ es) ≡ true → ((e.actor == a) ≡ true) ⊎ (has_of a es ≡ true)
has-cons a e es h = by (e.actor == a) refl (sum_by-cons (λ (x : LiveEntry). cond (x.actor == a) 1 0) e es)
  where
    by : (b : Bool) → (e.actor == a) ≡ b → count_of a (e ∷ es) ≡ cond b 1 0 + count_of a es → ((e.actor == a) ≡ true) ⊎ (has_of a es ≡ true)
    by true is sum = inl is
    by false is sum = inr (sym (ap (λ n. nat_lt 0 n) (sum ∙ omega arith)) ∙ h)

without_newest-one : (a : ℕ) (es : List LiveEntry) → has_of a es ≡ true → length (without_newest a es) + 1 ≤ length es
without_newest-one a [] h = absurd (false≢true h)
without_newest-one a (e ∷ es) h =
    cond_both (has_of a es) _ _ (λ (xs : List LiveEntry). length xs + 1 ≤ suc (length es))
    (λ has. let one = without_newest-one a es has in omega (arith, one))
    (λ not_behind. cond_both (e.actor == a) _ _ (λ (xs : List LiveEntry). length xs + 1 ≤ suc (length es)) (λ _. omega arith)
    (λ not_here. elim (has-cons a e es h) [
      | inl here ↦ absurd (true≢false (sym here ∙ not_here))
      | inr behind ↦ absurd (true≢false (sym behind ∙ not_behind))
    ]))

without-one : (a : ℕ) (open_ones : List ℕ) → is_session a open_ones ≡ true → length (without a open_ones) + 1 ≤ length open_ones
without-one a [] h = absurd (false≢true h)
without-one a (x ∷ xs) h = by (x == a) (λ rest. without-one a xs rest) h
  where
    by : (b : Bool) → (is_session a xs ≡ true → length (without a xs) + 1 ≤ length xs) → (b || is_session a xs) ≡ true → length (cond (not b) (x ∷ without a xs) (without a xs)) + 1 ≤ suc (length xs)
    by true later h = let shorter = filter-shorter (λ (y : ℕ). not (y == a)) xs in omega (arith, shorter)
    by false later h = let one = later h in omega (arith, one)

session_without : (x a : ℕ) (open_ones : List ℕ) → (x == a) ≡ false → is_session x open_ones ≡ true → is_session x (without a open_ones) ≡ true
session_without x a [] other h = h
session_without x a (y ∷ ys) other h = by (y == a) refl (λ rest. session_without x a ys other rest) (or_cases (y == x) (is_session x ys) h)
  where
    by : (b : Bool) → (y == a) ≡ b → (is_session x ys ≡ true → is_session x (without a ys) ≡ true) → ((y == x) ≡ true) ⊎ (is_session x ys ≡ true) → is_session x (cond (not b) (y ∷ without a ys) (without a ys)) ≡ true
    by true is later (inl same) = absurd (true≢false (sym (eq-eqb x a (sym (eqb-true y x same) ∙ eqb-true y a is)) ∙ other))
    by true is later (inr rest) = later rest
    by false is later (inl same) = or_left (y == x) (is_session x (without a ys)) same
    by false is later (inr rest) = or_right (y == x) (is_session x (without a ys)) (later rest)

-- each entry's actor is an open session
abbrev AreOwned : List ℕ → List LiveEntry → Type 0
AreOwned open_ones [] = Unit {0}
AreOwned open_ones (e ∷ es) = (is_session e.actor open_ones ≡ true) × AreOwned open_ones es

session_of : (a : ℕ) (open_ones : List ℕ) (es : List LiveEntry) → AreOwned open_ones es → has_of a es ≡ true → is_session a open_ones ≡ true
session_of a open_ones [] owned h = absurd (false≢true h)
session_of a open_ones (e ∷ es) owned h = elim (has-cons a e es h) [
  | inl here ↦ subst (λ n. is_session n open_ones ≡ true) (eqb-true e.actor a here) owned.0
  | inr behind ↦ session_of a open_ones es owned.1 behind
]

owned-push : (open_ones : List ℕ) (es : List LiveEntry) (e : LiveEntry) → AreOwned open_ones es → is_session e.actor open_ones ≡ true → AreOwned open_ones (es ++ e ∷ [])
owned-push open_ones [] e owned h = (h, tt)
owned-push open_ones (x ∷ es) e owned h = (owned.0, owned-push open_ones es e owned.1 h)

owned-newest : (a : ℕ) (open_ones : List ℕ) (es : List LiveEntry) → AreOwned open_ones es → AreOwned open_ones (without_newest a es)
owned-newest a open_ones [] owned = tt
owned-newest a open_ones (e ∷ es) owned =
    cond_both (has_of a es) _ _ (AreOwned open_ones) (λ _. (owned.0, owned-newest a open_ones es owned.1))
    (λ _. cond_both (e.actor == a) _ _ (AreOwned open_ones) (λ _. owned.1) (λ _. owned))

owned-without : (a : ℕ) (open_ones : List ℕ) (es : List LiveEntry) → AreOwned open_ones es → AreOwned (without a open_ones) (without_all a es)
owned-without a open_ones [] owned = tt
owned-without a open_ones (e ∷ es) owned = by (e.actor == a) refl (owned-without a open_ones es owned.1)
  where
    by : (b : Bool) → (e.actor == a) ≡ b → AreOwned (without a open_ones) (without_all a es) → AreOwned (without a open_ones) (cond (not b) (e ∷ without_all a es) (without_all a es))
    by true is rest = rest
    by false is rest = (session_without e.actor a open_ones is owned.0, rest)

-- ---- what each journal keeps, and what an event leaves before it is counted
abbrev entries_in : Option Open → List LiveEntry
entries_in None = []
entries_in (Some o) = o.entries

record HasRooms (s : State) : Type 0 where
  rooms : s.count + kept_rooms s ≤ max_entries
  owned : AreOwned s.open_sessions (entries_in s.current)

record IsLeft (s : State) : Type 0 where
  rooms : s.count + kept_rooms s + 1 ≤ max_entries
  owned : AreOwned s.open_sessions (entries_in s.current)

-- an event that ends or opens none
abbrev Room : State → Option Open → Type 0
Room s c = s.count + (lives_in c + length s.open_sessions) + 1 ≤ max_entries

left_begun : (s : State) (a : ℕ) (text : List ℕ) (c : Option Open) → s.count + (lives_in c + length s.open_sessions) + 2 ≤ max_entries → is_session a s.open_sessions ≡ true → AreOwned s.open_sessions (entries_in c) → IsLeft (record s { current = Some (begun_in s a text c); next_entry = s.next_entry + 1 })
left_begun s a text None room mine owned = record { rooms = omega (arith, room); owned = (mine, tt) }
left_begun s a text (Some o) room mine owned =
    let one = length-append o.entries (record { number = s.next_entry; actor = a } ∷ []) in
    record { rooms = omega (arith, room, one); owned = owned-push s.open_sessions o.entries (record { number = s.next_entry; actor = a }) owned mine }

left_changed : (s : State) (cs : List Change) (c : Option Open) → Room s c → AreOwned s.open_sessions (entries_in c) → IsLeft (changed_in s cs c)
left_changed s cs None room owned = record { rooms = room; owned = owned }
left_changed s cs (Some o) room owned = record { rooms = room; owned = owned }

left_edited : (s : State) → Room s s.current → AreOwned s.open_sessions (entries_in s.current) → (r : Result (List Change) EditRefusal) → IsLeft (edited_by s r)
left_edited s room owned (Ok cs) = left_changed s cs s.current room owned
left_edited s room owned (Err r) = record { rooms = room; owned = owned }

left_ended_open : (s : State) (o : Open) → Room s (Some o) → AreOwned s.open_sessions o.entries → IsLeft (ended_open s o)
left_ended_open s o room owned = cond_both (nat_lt 0 (length o.entries)) (record s { current = Some o }) (cond o.aborted (rollback s o) (commit s o.work (commit_step o))) IsLeft
    (λ _. record { rooms = room; owned = owned })
    (λ _. cond_both o.aborted (rollback s o) (commit s o.work (commit_step o)) IsLeft
    (λ _. record { rooms = omega (arith, room); owned = tt })
    (λ _. record { rooms = omega (arith, room); owned = tt }))

left_ended : (s : State) (a : ℕ) (keep : Bool) (c : Option Open) → s.count + (length (without_newest a (entries_in c)) + length s.open_sessions) + 1 ≤ max_entries → AreOwned s.open_sessions (entries_in c) → IsLeft (ended_in s a keep c)
left_ended s a keep None room owned = record { rooms = room; owned = tt }
left_ended s a keep (Some o) room owned = left_ended_open s (entry_ended a keep o) room (owned-newest a s.open_sessions o.entries owned)

left_closed_open : (s : State) (n : ℕ) (o : Open) → Room s (Some o) → AreOwned s.open_sessions o.entries → IsLeft (closed_open s n o)
left_closed_open s n o room owned = cond_both (nat_lt 0 n && (length o.entries == 0)) (rollback s o) (record s { current = Some o }) IsLeft
    (λ _. record { rooms = omega (arith, room); owned = tt })
    (λ _. record { rooms = room; owned = owned })

left_closed : (s : State) (a : ℕ) (c : Option Open) → Room s c → AreOwned s.open_sessions (without_all a (entries_in c)) → IsLeft (closed_in s a c)
left_closed s a None room owned = record { rooms = room; owned = tt }
left_closed s a (Some o) room owned =
    let shorter = filter-shorter (λ (e : LiveEntry). not (e.actor == a)) o.entries in
    left_closed_open s (count_of a o.entries) (entries_aborted a o) (omega (arith, shorter, room)) owned

left_with : (s : State) (items : List Item) (c : Option Open) → Room s c → AreOwned s.open_sessions (entries_in c) → Room s (kept_with items c) × AreOwned s.open_sessions (entries_in (kept_with items c))
left_with s items None room owned = (room, owned)
left_with s items (Some o) room owned = (room, owned)

left_without : (s : State) (z : Analyzer) (c : Option Open) → Room s c → AreOwned s.open_sessions (entries_in c) → Room s (kept_without z c) × AreOwned s.open_sessions (entries_in (kept_without z c))
left_without s z None room owned = (room, owned)
left_without s z (Some o) room owned = (room, owned)

left_none : (s : State) (c : Option Open) → Room s c → AreOwned s.open_sessions (entries_in c) → Room s (kept_none c) × AreOwned s.open_sessions (entries_in (kept_none c))
left_none s None room owned = (room, owned)
left_none s (Some o) room owned = (room, owned)

left_turned : (s : State) (a : ℕ) (z : Analyzer) (on : Bool) → Room s s.current → AreOwned s.open_sessions (entries_in s.current) → IsLeft (move s a (event.Enable z on) [])
left_turned s a z true room owned = let kept = left_with s (candidates (base s) z) s.current room owned in record { rooms = kept.0; owned = kept.1 }
left_turned s a z false room owned = let kept = left_without s z s.current room owned in record { rooms = kept.0; owned = kept.1 }

left_offered : (s : State) (a : ℕ) (t : Batch) (c : Option Open) → Room s c → AreOwned s.open_sessions (entries_in c) → IsLeft (offered_in s a t c)
left_offered s a t None room owned = cond_both t.joined (commit (record s { queue = t.queue }) t.work (step.Commit a analysis_text t.changes)) (record s { queue = t.queue; current = None }) IsLeft
    (λ _. record { rooms = room; owned = tt })
    (λ _. record { rooms = room; owned = tt })
left_offered s a t (Some o) room owned = record { rooms = room; owned = owned }

left_job : (s : State) (a ticket : ℕ) (vs : List Verdict) (job : Option Job) → Room s s.current → AreOwned s.open_sessions (entries_in s.current) → IsLeft (offered_job s a ticket vs job)
left_job s a ticket vs None room owned = record { rooms = room; owned = owned }
left_job s a ticket vs (Some job) room owned = left_offered (record s { taken = other_jobs ticket s.taken }) a (judged_all s.enabled (first_batch s) job.items vs) s.current room owned

-- ---- an event with a room of its own isn't refused
some_session : (t : Bool) (o : Option Refusal) (r : Refusal) → cond t o (Some r) ≡ None → t ≡ true
some_session true o r h = refl
some_session false o r h = absurd (none-some r (sym h))

end_granted : (s : State) (a : ℕ) (keep : Bool) (c : Option Open) (r : Reply) → end_reply s a keep c ≡ Some r → is_refused r ≡ false
end_granted s a keep None r h = absurd (none-some r h)
end_granted s a keep (Some o) r h = sym (ap is_refused (same_Some (end_reply_open s (entry_ended a keep o)) r h)) ∙ by (entry_ended a keep o)
  where
    by : (o : Open) → is_refused (end_reply_open s o) ≡ false
    by o = cond_both (nat_lt 0 (length o.entries)) (reply.Waiting (length o.entries)) (cond o.aborted reply.RolledBack (reply.Committed (next_step s))) (λ x. is_refused x ≡ false)
        (λ _. refl)
        (λ _. cond_both o.aborted reply.RolledBack (reply.Committed (next_step s)) (λ x. is_refused x ≡ false) (λ _. refl) (λ _. refl))

has_entry : (a : ℕ) (c : Option Open) → nat_lt 0 (lives_of_in a c) ≡ true → has_of a (entries_in c) ≡ true
has_entry a None h = h
has_entry a (Some o) h = h

some_lives : (n : ℕ) → nat_lt 0 n ≡ true → refused_if (n == 0) refusal.NoTransaction ≡ None
some_lives n h = cond_both (n == 0) (Some refusal.NoTransaction) None (λ o. o ≡ None)
    (λ zero_lives. let some = ltb-true 0 n h in let none = eqb-true n 0 zero_lives in absurd (omega (arith, some, none)))
    (λ _. refl)

end_is_granted : (s : State) (a : ℕ) (keep : Bool) (r : Reply) → HasRooms s → nat_lt 0 (lives_of s a) ≡ true → IsReply s a (event.End keep) r → is_refused r ≡ false
end_is_granted s a keep r rooms own said =
    let session = session_of a s.open_sessions (entries_in s.current) rooms.owned (has_entry a s.current own) in
    let none : refused s a (event.End keep) ≡ None = subst (λ t. cond t (refused_if (lives_of s a == 0) refusal.NoTransaction) (Some refusal.NoSession) ≡ None) (sym session) (some_lives (lives_of s a) own) in
    end_granted s a keep s.current r (subst (λ o. answered s a (event.End keep) o ≡ Some r) none said)

close_is_granted : (s : State) (a : ℕ) (r : Reply) → is_session a s.open_sessions ≡ true → IsReply s a event.Close r → is_refused r ≡ false
close_is_granted s a r session said =
    let none : refused s a event.Close ≡ None = subst (λ t. cond t None (Some refusal.NoSession) ≡ None) (sym session) refl in
    sym (ap is_refused (same_Some (reply.Closed (lives_of s a)) r (subst (λ o. answered s a event.Close o ≡ Some r) none said)))

-- ---- an event with its reply
unless : (s t : State) (b : Bool) → HasRooms s → (b ≡ true → Room s s.current) → (b ≡ false → IsLeft t) → IsLeft (cond b s t)
unless s t true h room left = record { rooms = room refl; owned = h.owned }
unless s t false h room left = left refl

left_end : (s : State) (a : ℕ) (keep : Bool) → HasRooms s → has_room s a (event.End keep) ≡ true → IsLeft (ended_in s a keep s.current)
left_end s a keep h room = left_ended s a keep s.current (fewer s.current h.rooms (or_cases (nat_lt 0 (lives_of s a)) _ room)) h.owned
  where
    fewer : (c : Option Open) → s.count + (lives_in c + length s.open_sessions) ≤ max_entries → (nat_lt 0 (lives_of_in a c) ≡ true) ⊎ (nat_le (s.count + (lives_in c + length s.open_sessions) + 1) max_entries ≡ true) → s.count + (length (without_newest a (entries_in c)) + length s.open_sessions) + 1 ≤ max_entries
    fewer None rooms (inl own) = absurd (false≢true own)
    fewer None rooms (inr le) = let room = leb-true (s.count + (0 + length s.open_sessions) + 1) max_entries le in omega (arith, room)
    fewer (Some o) rooms (inl own) = let one = without_newest-one a o.entries own in omega (arith, one, rooms)
    fewer (Some o) rooms (inr le) =
        let room = leb-true (s.count + (length o.entries + length s.open_sessions) + 1) max_entries le in
        let shorter = without_newest-shorter a o.entries in
        omega (arith, room, shorter)

left_close : (s : State) (a : ℕ) → HasRooms s → has_room s a event.Close ≡ true → IsLeft (closed_in (record s { open_sessions = without a s.open_sessions }) a s.current)
left_close s a h room =
    let t : State = record s { open_sessions = without a s.open_sessions } in
    left_closed t a s.current (fewer (or_cases (is_session a s.open_sessions) _ room)) (owned-without a s.open_sessions (entries_in s.current) h.owned)
  where
    fewer : (is_session a s.open_sessions ≡ true) ⊎ (nat_le (s.count + kept_rooms s + 1) max_entries ≡ true) → s.count + (lives_in s.current + length (without a s.open_sessions)) + 1 ≤ max_entries
    fewer (inl own) = let one = without-one a s.open_sessions own in let rooms = h.rooms in omega (arith, one, rooms)
    fewer (inr le) =
        let room = leb-true (s.count + kept_rooms s + 1) max_entries le in
        let shorter = filter-shorter (λ (x : ℕ). not (x == a)) s.open_sessions in
        omega (arith, room, shorter)

-- the room of an event that has none of its own
plain_room : (s : State) (own : Bool) → (own ≡ true → ⊥) → (own || nat_le (s.count + kept_rooms s + 1) max_entries) ≡ true → Room s s.current
plain_room s true none h = absurd (none refl)
plain_room s false none h = leb-true (s.count + kept_rooms s + 1) max_entries h

left_moved : (s : State) (a : ℕ) (e : Event) (r : Reply) → HasRooms s → has_room s a e ≡ true → IsReply s a e r → IsLeft (moved s a e r)
left_moved s a (event.Begin text) r h has said =
    let room = leb-true (s.count + kept_rooms s + 2) max_entries has in
    unless s _ (is_refused r) h (λ _. omega (arith, room))
    (λ granted. left_begun s a text s.current room (some_session (is_session a s.open_sessions) _ refusal.NoSession (not_refused s a (event.Begin text) (refused s a (event.Begin text)) r said granted)) h.owned)
left_moved s a (event.Edit e) r h has said = let room = plain_room s false false≢true has in unless s _ (is_refused r) h (λ _. room) (λ _. left_edited s room h.owned (edit_of (work s) e))
left_moved s a (event.End keep) r h has said = unless s _ (is_refused r) h
    (λ not_granted. plain_room s (nat_lt 0 (lives_of s a)) (λ own. true≢false (sym not_granted ∙ end_is_granted s a keep r h own said)) has)
    (λ _. left_end s a keep h has)
left_moved s a event.Undo r h has said = let room = plain_room s false false≢true has in unless s _ (is_refused r) h (λ _. room) (λ _. record { rooms = room; owned = h.owned })
left_moved s a event.Redo r h has said = let room = plain_room s false false≢true has in unless s _ (is_refused r) h (λ _. room) (λ _. record { rooms = room; owned = h.owned })
left_moved s a event.Full r h has said =
    let room = plain_room s false false≢true has in
    let kept = left_with s (all_candidates s.enabled (base s)) s.current room h.owned in
    unless s _ (is_refused r) h (λ _. room) (λ _. record { rooms = kept.0; owned = kept.1 })
left_moved s a event.Cancel r h has said =
    let room = plain_room s false false≢true has in
    let kept = left_none s s.current room h.owned in
    unless s _ (is_refused r) h (λ _. room) (λ _. record { rooms = kept.0; owned = kept.1 })
left_moved s a (event.Enable z on) r h has said = let room = plain_room s false false≢true has in unless s _ (is_refused r) h (λ _. room) (λ _. left_turned s a z on room h.owned)
left_moved s a event.Read r h has said = let room = plain_room s false false≢true has in unless s _ (is_refused r) h (λ _. room) (λ _. record { rooms = room; owned = h.owned })
left_moved s a event.Wait r h has said = let room = plain_room s false false≢true has in unless s _ (is_refused r) h (λ _. room) (λ _. record { rooms = room; owned = h.owned })
left_moved s a event.Close r h has said = unless s _ (is_refused r) h
    (λ not_granted. plain_room s (is_session a s.open_sessions) (λ own. true≢false (sym not_granted ∙ close_is_granted s a r own said)) has)
    (λ _. left_close s a h has)
left_moved s a (event.Take k) r h has said = let room = plain_room s false false≢true has in unless s _ (is_refused r) h (λ _. room) (λ _. record { rooms = room; owned = h.owned })
left_moved s a (event.Offer t) r h has said = let room = plain_room s false false≢true has in unless s _ (is_refused r) h (λ _. room) (λ _. left_job s a t (verdicts_in r) (job_of t s.taken) room h.owned)

-- the count, and the Settled step
rooms_settled : (s : State) → IsLeft s → HasRooms (settled (counted s))
rooms_settled s left = let rooms = left.rooms in cond_both (settles (counted s)) (record (counted s) { steps = s.steps ++ step.Settled ∷ []; due = false }) (counted s) HasRooms
    (λ _. record { rooms = omega (arith, rooms); owned = left.owned })
    (λ _. record { rooms = omega (arith, rooms); owned = left.owned })

rooms_from : (s : State) (J : List Entry) → HasRooms s → AreSteps s J → HasRooms (state_from s J)
rooms_from s [] h steps = h
rooms_from s (e ∷ J) h steps = rooms_from (after s e) J (rooms_settled (moved s e.actor e.event e.reply) (left_moved s e.actor e.event e.reply h steps.0.room steps.0.reply)) steps.1

pub legal_keeps_rooms : (h : Head) (J : List Entry) → IsLegal h J → (state h J).count + kept_rooms (state h J) ≤ max_entries
legal_keeps_rooms h J legal =
    let few : length (start_of h).open_sessions ≤ 16 = subst (λ k. k ≤ 16) (sym (length-up_to h.sessions)) legal.sessions.1 in
    let rooms : HasRooms (state h J) = rooms_from (start_of h) J (record { rooms = omega (arith, few); owned = tt }) legal.steps in
    rooms.rooms
