-- Each step keeps the state sound, and so does a legal journal. Use `step_keeps` and `legal_is_sound`.
use Rattle.std.proofs.Common.{◌≡◌, ℕ, Bool, true, false, cond, List, [], ◌∷◌, refl}
use Rattle.std.proofs.lemmas.Bool.{false≢true}
use Rattle.rvd_fact.specs.Valid.{IsValid}
use Rattle.rvd_event.specs.declared.events.Event.{Event}
use Rattle.rvd_event.specs.declared.events.Event.TheVariants.{Begin, Edit, End, Undo, Redo, Full, Cancel, Enable, Read, Wait, Close, Take, Offer}
use Rattle.rvd_event.specs.declared.replies.Reply.{Reply}
use Rattle.rvd_event.specs.declared.steps.Step.TheVariants as step
use Rattle.rvd_journal.specs.declared.entries.Entry.{Entry}
use Rattle.rvd_journal.specs.Entries.{is_event}
use Rattle.rvd_machine.specs.State.{State, job_of}
use Rattle.rvd_machine.specs.Moves.{undone, redone, filled, cancelled, turned}
use Rattle.rvd_machine.specs.Replies.{IsReply}
use Rattle.rvd_machine.specs.Steps.{moved, after, is_refused, IsStep, AreSteps, Head, start_of, state_from}
use Rattle.rvd_machine.specs.Sound.{Sound, LegalIsSound}
use Rattle.rvd_machine.proofs.Leads.{Laws}
use Rattle.rvd_machine.proofs.Keeps.{begin_keeps, edit_keeps, end_keeps, close_keeps, undo_keeps, redo_keeps, stepped_keeps, settled_keeps}
use Rattle.rvd_machine.proofs.Analyses.{full_keeps, turn_keeps, cancel_keeps, take_keeps}
use Rattle.rvd_machine.proofs.Offers.{offer_keeps}

unless : (b : Bool) (s t : State) → Sound s → Sound t → Sound (cond b s t)
unless true s t h k = h
unless false s t h k = k

moved_keeps : Laws → (s : State) (a : ℕ) (e : Event) (r : Reply) → is_event e ≡ true → IsReply s a e r → Sound s → Sound (moved s a e r)
moved_keeps L s a (Begin text) r legal ok h = unless (is_refused r) s _ h (begin_keeps s a text h)
moved_keeps L s a (Edit e) r legal ok h = unless (is_refused r) s _ h (edit_keeps L s e legal h)
moved_keeps L s a (End keep) r legal ok h = unless (is_refused r) s _ h (end_keeps s a keep s.current h)
moved_keeps L s a Undo r legal ok h = unless (is_refused r) s _ h (stepped_keeps (undone s) (step.Undo a) (undo_keeps s h))
moved_keeps L s a Redo r legal ok h = unless (is_refused r) s _ h (stepped_keeps (redone s) (step.Redo a) (redo_keeps s h))
moved_keeps L s a Full r legal ok h = unless (is_refused r) s _ h (stepped_keeps (filled s) (step.Full a) (full_keeps L s h))
moved_keeps L s a Cancel r legal ok h = unless (is_refused r) s _ h (stepped_keeps (cancelled s) (step.Cancel a) (cancel_keeps s h))
moved_keeps L s a (Enable z on) r legal ok h = unless (is_refused r) s _ h (stepped_keeps (turned s z on) (step.Enable a z on) (turn_keeps L s z on h))
moved_keeps L s a Read r legal ok h = unless (is_refused r) s s h h
moved_keeps L s a Wait r legal ok h = unless (is_refused r) s s h h
moved_keeps L s a Close r legal ok h = unless (is_refused r) s _ h (close_keeps s a h)
moved_keeps L s a (Take n) r legal ok h = unless (is_refused r) s _ h (take_keeps s n h)
moved_keeps L s a (Offer ticket) r legal ok h = offer_keeps L s a ticket (job_of ticket s.taken) refl r ok h

pub move_keeps : Laws → (s : State) (e : Entry) → IsStep s e → Sound s → Sound (moved s e.actor e.event e.reply)
move_keeps L s e ok h = moved_keeps L s e.actor e.event e.reply ok.event ok.reply h

pub step_keeps : Laws → (s : State) (e : Entry) → IsStep s e → Sound s → Sound (after s e)
step_keeps L s e ok h = settled_keeps (moved s e.actor e.event e.reply) (move_keeps L s e ok h)

pub steps_keep : Laws → (J : List Entry) (s : State) → AreSteps s J → Sound s → Sound (state_from s J)
steps_keep L [] s ok h = h
steps_keep L (e ∷ J) s ok h = steps_keep L J (after s e) ok.1 (step_keeps L s e ok.0 h)

pub start_is_sound : (h : Head) → IsValid h.program → Sound (start_of h)
start_is_sound h valid = record {
  valid = record { base = valid; work = valid; past = tt; undone = tt; taken = tt };
  none_lost = record { work = λ whole. absurd (false≢true whole); base = λ whole. absurd (false≢true whole) };
}

pub legal_is_sound : Laws → LegalIsSound
legal_is_sound L h J legal = steps_keep L J (start_of h) legal.steps (start_is_sound h legal.valid)
