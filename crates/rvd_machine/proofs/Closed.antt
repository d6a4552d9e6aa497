-- Where nothing is open, queued or taken while a whole analysis stands, no enabled analyzer would change the committed
-- program. Use `settled_is_closed`.
use Rattle.std.proofs.Common.{◌≡◌, ℕ, ◌^◌, ◌+◌, Bool, true, false, cond, not, ◌&&◌, ◌||◌, ◌==◌, nat_lt, List, [], ◌∷◌, ◌++◌, length, filter, take, Option, Some, None, Result, Ok, Err, refl, sym, ap, ◌∙◌, inl, inr, arith}
use Rattle.std.specs.List.{list_any}
use Rattle.std.proofs.lemmas.Bool.{and_parts, both_ways, or_cases, or_parts, false_from_ne_true, or_from, cond_both, eqb-true, false≢true, true≢false, not-true, not-false}
use Rattle.std.proofs.lemmas.Option.{none-some, same_Some}
use Rattle.rvd_fact.specs.declared.cells.Change.{Change}
use Rattle.rvd_fact.specs.Program.{Program}
use Rattle.rvd_ask.specs.declared.asks.Analyzer.{Analyzer}
use Rattle.rvd_ask.specs.declared.asks.Item.{Item}
use Rattle.rvd_ask.specs.Rules.{rule}
use Rattle.rvd_ask.specs.Order.{priority}
use Rattle.rvd_ask.specs.Unsettled.{analyzers, has_item, is_enabled, is_unsettled, same_analyzer, IsClosed, ListingLaw}
use Rattle.rvd_ask.proofs.ItemOrder.{same_analyzer as one_analyzer}
use Rattle.rvd_event.specs.declared.edits.EditRefusal.{EditRefusal}
use Rattle.rvd_event.specs.declared.events.Event.{Event}
use Rattle.rvd_event.specs.declared.events.Event.TheVariants as event
use Rattle.rvd_event.specs.declared.replies.Reply.{Reply}
use Rattle.rvd_event.specs.declared.replies.Reply.TheVariants as reply
use Rattle.rvd_event.specs.declared.replies.Refusal.{Refusal}
use Rattle.rvd_event.specs.declared.steps.Step.TheVariants as step
use Rattle.rvd_journal.specs.declared.entries.Entry.{Entry}
use Rattle.rvd_edit.specs.Edits.{edit_of}
use Rattle.rvd_machine.specs.Enabled.{Enabled, is_on, enabled_analyzers}
use Rattle.rvd_machine.specs.State.{State, Open, Job, base, work, work_in, lives_of, is_open, is_taken, is_quiet, job_of}
use Rattle.rvd_machine.specs.Moves.{entry_ended, settled, settled_step, settles}
use Rattle.rvd_machine.specs.Replies.{answered, edit_reply, end_reply, end_reply_open, granted, is_not_yet, last_settled, next_step, refused, take_reply, takes_none, IsReply, IsOfferReply}
use Rattle.rvd_machine.specs.Steps.{counted, moved, after, is_refused, IsStep, AreSteps, start_of}
use Rattle.rvd_machine.specs.Sound.{Sound, IsClosedAt, AreClosed, SettledIsClosed}
use Rattle.rvd_machine.proofs.Leads.{Laws}
use Rattle.rvd_machine.proofs.Whole.{move_keeps, step_keeps, start_is_sound}

-- ---- a list without members is empty, and a program where all items are settled is closed
on_listed : (E : Enabled) (a : Analyzer) (all : List Analyzer) → list_any (same_analyzer a) (filter (is_on E) all) ≡ true → is_on E a ≡ true
on_listed E a [] h = absurd (false≢true h)
on_listed E a (x ∷ all) h = by (is_on E x) refl h (on_listed E a all)
  where
    by : (b : Bool) → is_on E x ≡ b → list_any (same_analyzer a) (cond b (x ∷ filter (is_on E) all) (filter (is_on E) all)) ≡ true → (list_any (same_analyzer a) (filter (is_on E) all) ≡ true → is_on E a ≡ true) → is_on E a ≡ true
    by true on h later = elim (or_cases (same_analyzer a x) (list_any (same_analyzer a) (filter (is_on E) all)) h) [
      | inl same ↦ ap (is_on E) (one_analyzer a x (eqb-true (priority a) (priority x) same)) ∙ on
      | inr rest ↦ later rest
    ]
    by false off h later = later h

none_left : (E : Enabled) (S : Program) (i : Item) → (is_on E i.analyzer ≡ true → rule S i ≡ []) → (nat_lt i.at (2 ^ 32) && (is_enabled (enabled_analyzers E) i && is_unsettled S i)) ≡ false
none_left E S i settled = false_from_ne_true _ (λ all.
    let first = and_parts (nat_lt i.at (2 ^ 32)) (is_enabled (enabled_analyzers E) i && is_unsettled S i) all in
    let second = and_parts (is_enabled (enabled_analyzers E) i) (is_unsettled S i) first.1 in
    let none = settled (on_listed E i.analyzer analyzers second.0) in
    false≢true (sym (ap (λ (cs : List Change). not (length cs == 0)) none) ∙ second.1))

closed_where : ListingLaw → (E : Enabled) (S : Program) → ((i : Item) → is_on E i.analyzer ≡ true → rule S i ≡ []) → IsClosed S (enabled_analyzers E)
closed_where listing E S settled = sym ((listing (2 ^ 32) (λ i. is_enabled (enabled_analyzers E) i && is_unsettled S i)).only [] (record { in_order = refl; members = λ i. sym (none_left E S i (settled i)) }))

-- ---- nothing is left to do
base_is_work : (S : Program) (c : Option Open) → is_open c ≡ false → work_in S c ≡ S
base_is_work S None h = refl
base_is_work S (Some o) h = absurd (true≢false h)

pub none_queued : (queue : List Item) (i : Item) → (length queue == 0) ≡ true → has_item i queue ≡ false
none_queued [] i h = refl
none_queued (x ∷ queue) i h = let e = eqb-true (length (x ∷ queue)) 0 h in absurd (omega (arith, e))

none_taken : (jobs : List Job) (i : Item) → (length jobs == 0) ≡ true → is_taken i jobs ≡ false
none_taken [] i h = refl
none_taken (job ∷ jobs) i h = let e = eqb-true (length (job ∷ jobs)) 0 h in absurd (omega (arith, e))

quiet_is_closed : ListingLaw → (s : State) → Sound s → s.whole ≡ true → is_quiet s ≡ true → IsClosed (base s) (enabled_analyzers s.enabled)
quiet_is_closed listing s h whole quiet = closed_where listing s.enabled (base s) (λ i on.
    let parts = and_parts (not (is_open s.current)) (length s.queue == 0 && length s.taken == 0) quiet in
    let lists = and_parts (length s.queue == 0) (length s.taken == 0) parts.1 in
    ap (λ (S : Program). rule S i) (sym (base_is_work (base s) s.current (not-true (is_open s.current) parts.0)))
    ∙ h.none_lost.work whole i on (or_from (has_item i s.queue) (is_taken i s.taken) (none_queued s.queue i lists.0) (none_taken s.taken i lists.1)))

-- ---- where an entry names a Settled step
named : (s : State) (n : ℕ) → settled_step s ≡ Some n → settles s ≡ true
named s n h = by (settles s) h
  where
    by : (b : Bool) → cond b (Some (length s.steps + 1)) None ≡ Some n → b ≡ true
    by true h = refl
    by false h = absurd (none-some n h)

-- the Settled step changes neither the program nor who is enabled
kept_closed : (s : State) → IsClosed (base s) (enabled_analyzers s.enabled) → IsClosed (base (settled (counted s))) (enabled_analyzers (settled (counted s)).enabled)
kept_closed s h = cond_both (settles (counted s)) (record (counted s) { steps = s.steps ++ step.Settled ∷ []; due = false }) (counted s) (λ (t : State). IsClosed (base t) (enabled_analyzers t.enabled)) (λ _. h) (λ _. h)

-- ---- where a wait answers SettledAt
waited_is_closed : ListingLaw → (s : State) → Sound s → s.whole ≡ true → is_not_yet s ≡ false → IsClosed (base s) (enabled_analyzers s.enabled)
waited_is_closed listing s h whole over =
    let busy : (s.due || not (is_quiet s)) ≡ false = ap (λ (b : Bool). b && (s.due || not (is_quiet s))) (sym whole) ∙ over in
    quiet_is_closed listing s h whole (not-false (is_quiet s) (or_parts s.due (not (is_quiet s)) busy).1)

-- only a wait is answered so
abbrev is_settled_at : Reply → Bool
is_settled_at (reply.SettledAt n) = true
is_settled_at r = false

other_reply : (r x : Reply) → Some x ≡ Some r → is_settled_at x ≡ false → is_settled_at r ≡ false
other_reply r x said other = ap is_settled_at (sym (same_Some x r said)) ∙ other

none_said : {A : Type 0} (r : Reply) → None ≡ Some r → A
none_said r said = absurd (none-some r said)

not_by_edit : (x : Result (List Change) EditRefusal) (r : Reply) → edit_reply x ≡ Some r → is_settled_at r ≡ false
not_by_edit (Ok cs) r said = other_reply r (reply.Changed (length cs)) said refl
not_by_edit (Err x) r said = none_said r said

not_by_end : (s : State) (a : ℕ) (keep : Bool) (c : Option Open) (r : Reply) → end_reply s a keep c ≡ Some r → is_settled_at r ≡ false
not_by_end s a keep None r said = none_said r said
not_by_end s a keep (Some o) r said =
    let left = entry_ended a keep o in
    other_reply r (end_reply_open s left) said
    (cond_both (nat_lt 0 (length left.entries)) (reply.Waiting (length left.entries)) (cond left.aborted reply.RolledBack (reply.Committed (next_step s))) (λ (x : Reply). is_settled_at x ≡ false)
    (λ _. refl)
    (λ _. cond_both left.aborted reply.RolledBack (reply.Committed (next_step s)) (λ (x : Reply). is_settled_at x ≡ false) (λ _. refl) (λ _. refl)))

not_answered : (s : State) (a : ℕ) (e : Event) (o : Option Refusal) (r : Reply) → answered s a e o ≡ Some r → (granted s a e ≡ Some r → is_settled_at r ≡ false) → is_settled_at r ≡ false
not_answered s a e None r said other = other said
not_answered s a e (Some x) r said other = other_reply r (reply.Refused x) said refl

not_taken_so : (s : State) (n : ℕ) (r : Reply) → take_reply s n ≡ Some r → is_settled_at r ≡ false
not_taken_so s n r said = by (takes_none s n) said
  where
    by : (b : Bool) → cond b None (Some (reply.Job s.next_ticket (take n s.queue))) ≡ Some r → is_settled_at r ≡ false
    by true said = none_said r said
    by false said = other_reply r (reply.Job s.next_ticket (take n s.queue)) said refl

not_offered_so : (s : State) (ticket : ℕ) (o : Option Job) (r : Reply) → IsOfferReply s ticket o r → is_settled_at r ≡ false
not_offered_so s ticket None r said = ap is_settled_at said
not_offered_so s ticket (Some job) (reply.SettledAt n) said = absurd said
not_offered_so s ticket (Some job) r said = refl

-- a wait that is answered so
by_wait : (s : State) (a : ℕ) (o : Option Refusal) (r : Reply) → answered s a event.Wait o ≡ Some r → is_settled_at r ≡ true → s.whole ≡ true
by_wait s a (Some x) r said at = absurd (both_ways (is_settled_at r) (other_reply r (reply.Refused x) said refl) at)
by_wait s a None r said at = by s.whole said
  where
    by : (b : Bool) → Some (cond b (reply.SettledAt (last_settled s.steps)) reply.Voided) ≡ Some r → b ≡ true
    by true said = refl
    by false said = absurd (both_ways (is_settled_at r) (other_reply r reply.Voided said refl) at)

wait_closed : ListingLaw → (s : State) (a : ℕ) (r : Reply) → Sound s → IsReply s a event.Wait r → is_settled_at r ≡ true → IsClosed (base s) (enabled_analyzers s.enabled)
wait_closed listing s a r h said at = by (is_not_yet s) refl said
  where
    by : (b : Bool) → is_not_yet s ≡ b → cond b None (answered s a event.Wait (refused s a event.Wait)) ≡ Some r → IsClosed (base s) (enabled_analyzers s.enabled)
    by true e said = none_said r said
    by false e said = waited_is_closed listing s h (by_wait s a (refused s a event.Wait) r said at) e

-- whatever event it is
abbrev ClosedIn : State → Type 0
ClosedIn s = IsClosed (base s) (enabled_analyzers s.enabled)

said_closed : ListingLaw → (s : State) (a : ℕ) (e : Event) (r : Reply) → Sound s → IsReply s a e r → is_settled_at r ≡ true → ClosedIn (moved s a e r)
said_closed listing s a event.Wait r h said at = cond_both (is_refused r) s s ClosedIn (λ _. wait_closed listing s a r h said at) (λ _. wait_closed listing s a r h said at)
said_closed listing s a (event.Offer ticket) r h said at = absurd (both_ways (is_settled_at r) (not_offered_so s ticket (job_of ticket s.taken) r said) at)
said_closed listing s a (event.Take n) r h said at = absurd (both_ways (is_settled_at r) (not_taken_so s n r said) at)
said_closed listing s a (event.Begin text) r h said at = absurd (both_ways (is_settled_at r) (not_answered s a (event.Begin text) (refused s a (event.Begin text)) r said (λ given. other_reply r (reply.Entry s.next_entry) given refl)) at)
said_closed listing s a (event.Edit e) r h said at = absurd (both_ways (is_settled_at r) (not_answered s a (event.Edit e) (refused s a (event.Edit e)) r said (not_by_edit (edit_of (work s) e) r)) at)
said_closed listing s a (event.End keep) r h said at = absurd (both_ways (is_settled_at r) (not_answered s a (event.End keep) (refused s a (event.End keep)) r said (not_by_end s a keep s.current r)) at)
said_closed listing s a event.Undo r h said at = absurd (both_ways (is_settled_at r) (not_answered s a event.Undo (refused s a event.Undo) r said (λ given. other_reply r (reply.StepNo (next_step s)) given refl)) at)
said_closed listing s a event.Redo r h said at = absurd (both_ways (is_settled_at r) (not_answered s a event.Redo (refused s a event.Redo) r said (λ given. other_reply r (reply.StepNo (next_step s)) given refl)) at)
said_closed listing s a event.Full r h said at = absurd (both_ways (is_settled_at r) (not_answered s a event.Full (refused s a event.Full) r said (λ given. other_reply r (reply.StepNo (next_step s)) given refl)) at)
said_closed listing s a event.Cancel r h said at = absurd (both_ways (is_settled_at r) (not_answered s a event.Cancel (refused s a event.Cancel) r said (λ given. other_reply r (reply.StepNo (next_step s)) given refl)) at)
said_closed listing s a (event.Enable z on) r h said at = absurd (both_ways (is_settled_at r) (not_answered s a (event.Enable z on) (refused s a (event.Enable z on)) r said (λ given. other_reply r (reply.StepNo (next_step s)) given refl)) at)
said_closed listing s a event.Read r h said at = absurd (both_ways (is_settled_at r) (not_answered s a event.Read (refused s a event.Read) r said (λ given. other_reply r (reply.At (length s.steps)) given refl)) at)
said_closed listing s a event.Close r h said at = absurd (both_ways (is_settled_at r) (not_answered s a event.Close (refused s a event.Close) r said (λ given. other_reply r (reply.Closed (lives_of s a)) given refl)) at)

-- ---- each entry of a legal journal
step_is_closed : Laws → (s : State) (e : Entry) → IsStep s e → Sound s → IsClosedAt (after s e) e
step_is_closed L s e ok h n (inl noted) =
    let m = moved s e.actor e.event e.reply in
    let settling = named m n (sym ok.settled ∙ noted) in
    let parts = and_parts m.whole (m.due && is_quiet m) settling in
    kept_closed m (quiet_is_closed L.listing m (move_keeps L s e ok h) parts.0 (and_parts m.due (is_quiet m) parts.1).1)
step_is_closed L s e ok h n (inr said) =
    kept_closed (moved s e.actor e.event e.reply) (said_closed L.listing s e.actor e.event e.reply h ok.reply (ap is_settled_at said))

steps_are_closed : Laws → (J : List Entry) (s : State) → AreSteps s J → Sound s → AreClosed s J
steps_are_closed L [] s ok h = tt
steps_are_closed L (e ∷ J) s ok h = (step_is_closed L s e ok.0 h, steps_are_closed L J (after s e) ok.1 (step_keeps L s e ok.0 h))

pub settled_is_closed : Laws → SettledIsClosed
settled_is_closed L h J legal = steps_are_closed L J (start_of h) legal.steps (start_is_sound h legal.valid)
