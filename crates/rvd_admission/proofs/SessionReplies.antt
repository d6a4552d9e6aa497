-- The answers that the machine may give to the event of a session and to a take. Use `one_reply` where two are told, `waits_on`
-- for a wait that goes on, and `take_answer` for a take.
use Rattle.std.proofs.Common.{◌≡◌, ℕ, Bool, true, false, cond, ◌&&◌, ◌==◌, not, List, [], ◌∷◌, ◌++◌, length, take, Option, Some, None, is_some, refl, sym, ap, ◌∙◌, subst, arith}
use Rattle.std.proofs.lemmas.Bool.{false≢true, true≢false}
use Rattle.std.proofs.lemmas.Bool.Decides.{nat_tests}
use Rattle.std.proofs.lemmas.List.{length-append}
use Rattle.std.proofs.lemmas.Option.{none-some, same_Some}
use Rattle.rvd_event.specs.declared.events.Event.{Event}
use Rattle.rvd_event.specs.declared.events.Event.TheVariants as event
use Rattle.rvd_event.specs.declared.replies.Reply.{Reply}
use Rattle.rvd_event.specs.declared.replies.Reply.TheVariants as reply
use Rattle.rvd_machine.specs.Moves.{move, settled_step, taken_by}
use Rattle.rvd_machine.specs.Ranges.{is_reply}
use Rattle.rvd_machine.specs.Replies.{IsReply, answered, is_not_yet, refused, reply_to, take_reply, takes_none}
use Rattle.rvd_machine.specs.State.{State, Job, is_open, work}
use Rattle.rvd_machine.specs.Steps.{is_refused, moved, verdicts_in}
use Rattle.rvd_engine.specs.Admitted.{IsAnswer}
use Rattle.rvd_engine.specs.Performed.{Performed, is_plain, is_session_step}
use Rattle.rvd_engine.specs.Settling.{settled_if}
use Rattle.rvd_admission.specs.Looks.{is_sessions}

-- the one reply to a session's event
pub session_reply : (s : State) (a : ℕ) (e : Event) (r : Reply) → is_sessions e ≡ true → IsReply s a e r → reply_to s a e ≡ Some r
session_reply s a (event.Begin text) r of_session is = is
session_reply s a (event.Edit e) r of_session is = is
session_reply s a (event.End keep) r of_session is = is
session_reply s a event.Undo r of_session is = is
session_reply s a event.Redo r of_session is = is
session_reply s a event.Full r of_session is = is
session_reply s a event.Cancel r of_session is = is
session_reply s a (event.Enable x on) r of_session is = is
session_reply s a event.Read r of_session is = is
session_reply s a event.Wait r of_session is = is
session_reply s a event.Close r of_session is = is
session_reply s a (event.Take n) r of_session is = absurd (false≢true of_session)
session_reply s a (event.Offer t) r of_session is = absurd (false≢true of_session)

pub one_reply : (s : State) (a : ℕ) (e : Event) (r q : Reply) → is_sessions e ≡ true → reply_to s a e ≡ Some r → IsReply s a e q → r ≡ q
one_reply s a e r q of_session said is = same_Some r q (sym said ∙ session_reply s a e q of_session is)

-- a wait that goes on has none
pub not_true : (x : Bool) → not x ≡ false → x ≡ true
not_true true h = refl
not_true false h = absurd (true≢false h)

no_reply : (s : State) (a : ℕ) (r : Reply) → is_not_yet s ≡ true → reply_to s a event.Wait ≡ Some r → ⊥
no_reply s a r goes_on said =
    none-some r (sym (ap (λ (b : Bool). cond b None (answered s a event.Wait (refused s a event.Wait))) goes_on) ∙ said)

pub waits_on : (s : State) (a : ℕ) (e : Event) (r : Reply) → is_sessions e ≡ true → is_session_step s e ≡ false → IsReply s a e r → ⊥
waits_on s a event.Wait r of_session no_step is = no_reply s a r (not_true (is_not_yet s) no_step) is
waits_on s a (event.Begin text) r of_session no_step is = true≢false no_step
waits_on s a (event.Edit e) r of_session no_step is = true≢false no_step
waits_on s a (event.End keep) r of_session no_step is = true≢false no_step
waits_on s a event.Undo r of_session no_step is = true≢false no_step
waits_on s a event.Redo r of_session no_step is = true≢false no_step
waits_on s a event.Full r of_session no_step is = true≢false no_step
waits_on s a event.Cancel r of_session no_step is = true≢false no_step
waits_on s a (event.Enable x on) r of_session no_step is = true≢false no_step
waits_on s a event.Read r of_session no_step is = true≢false no_step
waits_on s a event.Close r of_session no_step is = true≢false no_step
waits_on s a (event.Take n) r of_session no_step is = false≢true of_session
waits_on s a (event.Offer t) r of_session no_step is = false≢true of_session

-- what was performed has the reply and the Settled step that were told
pub performed_so : (s t : State) (a : ℕ) (e : Event) (kept r : Reply) (made noted : Option ℕ) → kept ≡ r → noted ≡ settled_step (moved s a e r) → Performed s t a e kept made → Performed s t a e r noted
performed_so s t a e kept r made noted same named done =
    let p : Performed s t a e r made = subst (λ (q : Reply). Performed s t a e q made) same done in
    record { reply = p.reply; parts = p.parts; named = named; state = p.state }

-- ---- a take
-- no Settled step follows, since a job is taken
none_taken : (xs : List Job) (x : Job) → (length (xs ++ x ∷ []) == 0) ≡ false
none_taken xs x = let more = length-append xs (x ∷ []) in grind (arith, nat_tests, more)

never : (a b c d : Bool) → (a && (b && (c && (d && false)))) ≡ false
never true true true true = refl
never true true true false = refl
never true true false d = refl
never true false c d = refl
never false b c d = refl

pub take_settles_not : (s : State) (n : ℕ) → settled_step (taken_by s n) ≡ None
take_settles_not s n =
    ap (λ (b : Bool). settled_if (s.whole && (s.due && (not (is_open s.current) && (length (taken_by s n).queue == 0 && b)))) (length s.steps)) (none_taken s.taken (record { ticket = s.next_ticket; items = take n s.queue; program = work s }))
    ∙ ap (λ (b : Bool). settled_if b (length s.steps)) (never s.whole s.due (not (is_open s.current)) (length (taken_by s n).queue == 0))

pub record IsTake (s : State) (n : ℕ) (r : Reply) (noted : Option ℕ) : Type 0 where
  pub given : takes_none s n ≡ false
  pub job : r ≡ reply.Job s.next_ticket (take n s.queue)
  pub named : noted ≡ None

pub take_answer : (s : State) (a n : ℕ) (r : Reply) (noted : Option ℕ) → IsAnswer s a (event.Take n) r noted → IsTake s n r noted
take_answer s a n r noted is = by (takes_none s n) refl is.reply
  where
    by : (b : Bool) → takes_none s n ≡ b → cond b None (Some (reply.Job s.next_ticket (take n s.queue))) ≡ Some r → IsTake s n r noted
    by true none said = absurd (none-some r said)
    by false some said =
        let job : r ≡ reply.Job s.next_ticket (take n s.queue) = sym (same_Some (reply.Job s.next_ticket (take n s.queue)) r said) in
        record {
          given = some;
          job = job;
          named = is.named ∙ ap (λ (q : Reply). settled_step (moved s a (event.Take n) q)) job ∙ take_settles_not s n;
        }

pub performed_take : (s t : State) (a n : ℕ) (kept r : Reply) (made noted : Option ℕ) → r ≡ reply.Job s.next_ticket (take n s.queue) → noted ≡ None → Performed s t a (event.Take n) kept made → Performed s t a (event.Take n) r noted
performed_take s t a n kept r made noted job none done =
    let told : IsTake s n kept made = take_answer s a n kept made (record { reply = done.reply; named = done.named }) in
    performed_so s t a (event.Take n) kept r made noted (told.job ∙ sym job)
    (none ∙ sym (ap (λ (q : Reply). settled_step (moved s a (event.Take n) q)) job ∙ take_settles_not s n)) done

pub none_of : (o : Option ℕ) → is_some o ≡ false → o ≡ None
none_of None none = refl
none_of (Some n) none = absurd (true≢false none)

-- ---- what follows a reply
pub refused_moved : (s : State) (a : ℕ) (e : Event) (r : Reply) → is_refused r ≡ true → moved s a e r ≡ s
refused_moved s a e r refused_one = ap (λ (b : Bool). cond b s (move s a e (verdicts_in r))) refused_one

plain_verdicts : (r : Reply) → is_plain r ≡ true → verdicts_in r ≡ []
plain_verdicts (reply.Verdicts verdicts) plain = absurd (false≢true plain)
plain_verdicts (reply.Job ticket items) plain = refl
plain_verdicts (reply.Entry n) plain = refl
plain_verdicts (reply.Changed n) plain = refl
plain_verdicts (reply.Waiting n) plain = refl
plain_verdicts (reply.Committed n) plain = refl
plain_verdicts reply.RolledBack plain = refl
plain_verdicts (reply.StepNo n) plain = refl
plain_verdicts (reply.At n) plain = refl
plain_verdicts (reply.SettledAt n) plain = refl
plain_verdicts reply.Voided plain = refl
plain_verdicts (reply.Closed n) plain = refl
plain_verdicts (reply.Refused r) plain = refl

pub plain_moved : (s : State) (a : ℕ) (e : Event) (r : Reply) → is_plain r ≡ true → is_refused r ≡ false → moved s a e r ≡ move s a e []
plain_moved s a e r plain granted_one =
    ap (λ (b : Bool). cond b s (move s a e (verdicts_in r))) granted_one ∙ ap (move s a e) (plain_verdicts r plain)
