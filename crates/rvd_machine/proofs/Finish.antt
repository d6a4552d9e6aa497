-- Where the workers are finished, they stay so. Use `finish_stays_all`.
use Rattle.std.proofs.Common.{◌≡◌, ℕ, Bool, true, false, cond, ◌&&◌, ◌||◌, not, ◌==◌, nat_lt, List, [], ◌∷◌, ◌++◌, length, take, Option, Some, None, refl, sym, ap, ◌∙◌, subst, arith}
use Rattle.std.proofs.lemmas.Bool.{cond_both, and_parts, false≢true, ne_eqb}
use Rattle.std.proofs.lemmas.Option.{none-some, same_Some}
use Rattle.rvd_event.specs.declared.events.Event.{Event}
use Rattle.rvd_event.specs.declared.events.Event.TheVariants as event
use Rattle.rvd_event.specs.declared.replies.Reply.{Reply}
use Rattle.rvd_event.specs.declared.replies.Reply.TheVariants as reply
use Rattle.rvd_event.specs.declared.replies.Refusal.TheVariants as refusal
use Rattle.rvd_event.specs.declared.steps.Step.TheVariants as step
use Rattle.rvd_journal.specs.declared.entries.Entry.{Entry}
use Rattle.rvd_machine.specs.State.{State, is_session, is_quiet, job_of}
use Rattle.rvd_machine.specs.Moves.{move, settled, settles}
use Rattle.rvd_machine.specs.Replies.{IsReply, IsOfferReply, is_finished, is_idle, is_not_yet, refused, refused_open, take_reply, takes_none, answered, granted}
use Rattle.rvd_machine.specs.Steps.{Head, IsLegal, IsStep, AreSteps, moved, counted, after, is_refused, verdicts_in, state_from, state}
use Rattle.rvd_machine.specs.Running.{FinishStays}
use Rattle.rvd_machine.proofs.Journals.{state-append, steps_after}

empty_of : {A : Type 0} (xs : List A) → (length xs == 0) ≡ true → xs ≡ []
empty_of [] h = refl
empty_of (x ∷ xs) h = absurd (false≢true (sym (ne_eqb (length (x ∷ xs)) 0 (λ e. absurd (omega (arith, e)))) ∙ h))

-- nothing of the state is shown to a caller without a session: each event is refused
record Finished (s : State) : Type 0 where
  sessions : s.open_sessions ≡ []
  taken : s.taken ≡ []
  finished : is_finished s ≡ true

finished_of : (s : State) → is_finished s ≡ true → Finished s
finished_of s h =
    let outer = and_parts (length s.open_sessions == 0) (is_quiet s) h in
    let inner = and_parts _ _ outer.1 in
    let last = and_parts (length s.queue == 0) (length s.taken == 0) inner.1 in
    record { sessions = empty_of s.open_sessions outer.0; taken = empty_of s.taken last.1; finished = h }

refused_by : (s : State) (a : ℕ) (e : Event) (r : Reply) → Finished s → answered s a e (refused s a e) ≡ Some r → is_refused r ≡ true
refused_by s a e r f said =
    let none : refused s a e ≡ Some refusal.NoSession = ap (λ l. cond (is_session a l) (refused_open s a e) (Some refusal.NoSession)) f.sessions in
    let is : Some (reply.Refused refusal.NoSession) ≡ Some r = sym (ap (answered s a e) none) ∙ said in
    ap is_refused (sym (same_Some (reply.Refused refusal.NoSession) r is))

waits_not : (b : Bool) (o : Option Reply) (r : Reply) → cond b None o ≡ Some r → o ≡ Some r
waits_not true o r said = absurd (none-some r said)
waits_not false o r said = said

one_of : (a b c d : Bool) → c ≡ true → (a || (b || (c || d))) ≡ true
one_of true b c d e = refl
one_of false true c d e = refl
one_of false false c d e = ap (λ x. x || d) e

takes_not : (s : State) (n : ℕ) (r : Reply) → is_finished s ≡ true → take_reply s n ≡ Some r → ⊥
takes_not s n r h said =
    let none : takes_none s n ≡ true = one_of (n == 0) (nat_lt 64 n) (is_finished s) (is_idle s) h in
    absurd (none-some r (sym (ap (λ b. cond b None (Some (reply.Job s.next_ticket (take n s.queue)))) none) ∙ said))

is_refused_when : (s : State) (a : ℕ) (e : Event) (r : Reply) → Finished s → IsReply s a e r → is_refused r ≡ true
is_refused_when s a (event.Begin text) r f said = refused_by s a (event.Begin text) r f said
is_refused_when s a (event.Edit e) r f said = refused_by s a (event.Edit e) r f said
is_refused_when s a (event.End keep) r f said = refused_by s a (event.End keep) r f said
is_refused_when s a event.Undo r f said = refused_by s a event.Undo r f said
is_refused_when s a event.Redo r f said = refused_by s a event.Redo r f said
is_refused_when s a event.Full r f said = refused_by s a event.Full r f said
is_refused_when s a event.Cancel r f said = refused_by s a event.Cancel r f said
is_refused_when s a (event.Enable z on) r f said = refused_by s a (event.Enable z on) r f said
is_refused_when s a event.Read r f said = refused_by s a event.Read r f said
is_refused_when s a event.Wait r f said = refused_by s a event.Wait r f (waits_not (is_not_yet s) _ r said)
is_refused_when s a event.Close r f said = refused_by s a event.Close r f said
is_refused_when s a (event.Take n) r f said = absurd (takes_not s n r f.finished said)
is_refused_when s a (event.Offer ticket) r f said =
    let none : job_of ticket s.taken ≡ None = ap (job_of ticket) f.taken in
    let is : r ≡ reply.Refused (refusal.Cancelled ticket) = subst (λ o. IsOfferReply s ticket o r) none said in
    ap is_refused is

still_finished : (s : State) → is_finished s ≡ true → is_finished (settled (counted s)) ≡ true
still_finished s h = cond_both (settles (counted s)) (record (counted s) { steps = s.steps ++ step.Settled ∷ []; due = false }) (counted s) (λ t. is_finished t ≡ true) (λ _. h) (λ _. h)

finished_after : (s : State) (e : Entry) → IsStep s e → is_finished s ≡ true → is_finished (after s e) ≡ true
finished_after s e step h =
    let same : moved s e.actor e.event e.reply ≡ s = ap (λ b. cond b s (move s e.actor e.event (verdicts_in e.reply))) (is_refused_when s e.actor e.event e.reply (finished_of s h) step.reply) in
    subst (λ t. is_finished (settled (counted t)) ≡ true) (sym same) (still_finished s h)

finished_from : (s : State) (K : List Entry) → AreSteps s K → is_finished s ≡ true → is_finished (state_from s K) ≡ true
finished_from s [] steps h = h
finished_from s (e ∷ K) steps h = finished_from (after s e) K steps.1 (finished_after s e steps.0 h)

pub finish_stays_all : FinishStays
finish_stays_all h J K legal fin = subst (λ s. is_finished s ≡ true) (sym (state-append h J K)) (finished_from (state h J) K (steps_after h J K legal) fin)
