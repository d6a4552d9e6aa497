-- An entry is a step without the bytes of blocks too, and leads to the same state. Use `bare_is_step`.
use Rattle.std.proofs.Common.{◌≡◌, ℕ, Bool, true, ◌&&◌, List, [], ◌∷◌, map, Option, Some, None, Result, Ok, Err, refl, sym, ap, ◌∙◌, subst}
use Rattle.std.specs.Prelude.{nat_lt, length}
use Rattle.std.specs.List.{list_all}
use Rattle.std.proofs.lemmas.Bool.{and_from, and_parts, cond_both}
use Rattle.rvd_fact.specs.declared.values.Value.{Value}
use Rattle.rvd_fact.specs.declared.values.Value.TheVariants as value
use Rattle.rvd_fact.specs.declared.cells.Cell.{Cell}
use Rattle.rvd_fact.specs.declared.cells.Change.{Change}
use Rattle.rvd_fact.specs.Program.{Program}
use Rattle.rvd_ask.specs.declared.answers.Answer.{Answer}
use Rattle.rvd_ask.specs.declared.answers.Answer.TheVariants as answer
use Rattle.rvd_ask.specs.declared.asks.Item.{Item}
use Rattle.rvd_ask.specs.Answers.{plain_value, IsSame}
use Rattle.rvd_event.specs.declared.edits.EditRefusal.{EditRefusal}
use Rattle.rvd_event.specs.declared.events.Event.{Event}
use Rattle.rvd_event.specs.declared.events.Event.TheVariants as event
use Rattle.rvd_event.specs.declared.replies.Reply.{Reply}
use Rattle.rvd_event.specs.declared.replies.Reply.TheVariants as reply
use Rattle.rvd_event.specs.declared.replies.Refusal.{Refusal}
use Rattle.rvd_event.specs.declared.verdicts.Verdict.{Verdict}
use Rattle.rvd_event.specs.declared.verdicts.Verdict.TheVariants.{Stale, Foreign}
use Rattle.rvd_journal.specs.declared.entries.Entry.{Entry}
use Rattle.rvd_journal.specs.Entries.{is_word}
use Rattle.rvd_reading.specs.Values.{bare}
use Rattle.rvd_journal_reading.specs.Answers.{bare_answer}
use Rattle.rvd_journal_reading.specs.Verdicts.{bare_verdict}
use Rattle.rvd_line_reading.specs.Replies.{bare_reply}
use Rattle.rvd_line_reading.specs.Lines.{bare_entry}
use Rattle.rvd_line_reading.proofs.BareTexts.{has-form}
use Rattle.rvd_machine.specs.Enabled.{Enabled}
use Rattle.rvd_edit.specs.Edits.{edit_of}
use Rattle.rvd_machine.specs.Moves.{entry_ended, move, offered_in, offered_job, settled, settled_step}
use Rattle.rvd_machine.specs.Ranges.{are_some_bytes, is_answer, is_ask, is_reply, is_value, is_verdict}
use Rattle.rvd_machine.specs.Replies.{IsOfferReply, IsReply, answered, edit_reply, end_reply, granted, is_not_yet, last_settled, refused, reply_to, take_reply, takes_none}
use Rattle.rvd_machine.specs.State.{State, Job, Open, job_of, other_jobs, work}
use Rattle.rvd_machine.specs.Steps.{IsStep, after, counted, moved}
use Rattle.rvd_machine.specs.Verdicts.{AreVerdicts, Batch, IsVerdict, first_batch, judged, judged_all}
use Rattle.rvd_replay.specs.Steps.{BareIsStep}

-- ---- answers
same_value : (v : Value) → plain_value (bare v) ≡ plain_value v
same_value (value.Block len perm None) = refl
same_value (value.Block len perm (Some bytes)) = refl
same_value v = refl

same_shown : (a : Answer) → IsSame (bare_answer a) a
same_shown (answer.Cell (Some c)) = ap (λ (v : Value). answer.Cell (let o : Option Cell = Some (record { value = v; source = c.source }) in o)) (same_value c.value)
same_shown a = refl

-- ---- verdicts
verdict_stays : (E : Enabled) (P : Program) (b : Batch) (i : Item) (v : Verdict) → IsVerdict E P b i v → IsVerdict E P b i (bare_verdict v)
verdict_stays E P b i (Stale q was now) may =
    (may.0, same_shown was ∙ may.1, same_shown now ∙ may.2, λ same. may.3 (sym (same_shown was) ∙ same ∙ same_shown now))
verdict_stays E P b i (Foreign q said was) may =
    (may.0, has-form q said ∙ may.1, same_shown was ∙ may.2, (λ same. may.3 (sym (same_shown said) ∙ same)), λ same. may.4 (sym (same_shown said) ∙ same))
verdict_stays E P b i v may = may

judged_alike : (E : Enabled) (b : Batch) (i : Item) (v : Verdict) → judged E b i (bare_verdict v) ≡ judged E b i v
judged_alike E b i (Stale q was now) = refl
judged_alike E b i (Foreign q said was) = refl
judged_alike E b i v = refl

verdicts_stay : (E : Enabled) (P : Program) (items : List Item) (vs : List Verdict) (b : Batch) → AreVerdicts E P b items vs → AreVerdicts E P b items (map bare_verdict vs)
verdicts_stay E P [] [] b may = tt
verdicts_stay E P [] (v ∷ vs) b may = absurd may
verdicts_stay E P (i ∷ items) [] b may = absurd may
verdicts_stay E P (i ∷ items) (v ∷ vs) b may = (
  verdict_stays E P b i v may.0,
  subst (λ (c : Batch). AreVerdicts E P c items (map bare_verdict vs)) (sym (judged_alike E b i v)) (verdicts_stay E P items vs (judged E b i v) may.1),
)

all_judged_alike : (E : Enabled) (items : List Item) (vs : List Verdict) (b : Batch) → judged_all E b items (map bare_verdict vs) ≡ judged_all E b items vs
all_judged_alike E [] vs b = refl
all_judged_alike E (i ∷ items) [] b = refl
all_judged_alike E (i ∷ items) (v ∷ vs) b =
    ap (λ (c : Batch). judged_all E c items (map bare_verdict vs)) (judged_alike E b i v) ∙ all_judged_alike E items vs (judged E b i v)

-- ---- the ranges of parts
value_in_range : (v : Value) → is_value v ≡ true → is_value (bare v) ≡ true
value_in_range (value.Block len perm None) range = range
value_in_range (value.Block len perm (Some bytes)) range = and_from (is_word len) true (and_parts (is_word len) (are_some_bytes (Some bytes)) range).0 refl
value_in_range v range = range

answer_in_range : (a : Answer) → is_answer a ≡ true → is_answer (bare_answer a) ≡ true
answer_in_range (answer.Cell (Some c)) range = value_in_range c.value range
answer_in_range a range = range

verdict_in_range : (v : Verdict) → is_verdict v ≡ true → is_verdict (bare_verdict v) ≡ true
verdict_in_range (Stale q was now) range =
    let parts = and_parts (is_ask q) (is_answer was && is_answer now) range in
    let answers = and_parts (is_answer was) (is_answer now) parts.1 in
    and_from (is_ask q) _ parts.0 (and_from (is_answer (bare_answer was)) _ (answer_in_range was answers.0) (answer_in_range now answers.1))
verdict_in_range (Foreign q said was) range =
    let parts = and_parts (is_ask q) (is_answer said && is_answer was) range in
    let answers = and_parts (is_answer said) (is_answer was) parts.1 in
    and_from (is_ask q) _ parts.0 (and_from (is_answer (bare_answer said)) _ (answer_in_range said answers.0) (answer_in_range was answers.1))
verdict_in_range v range = range

verdicts_in_range : (vs : List Verdict) → list_all is_verdict vs ≡ true → list_all is_verdict (map bare_verdict vs) ≡ true
verdicts_in_range [] range = refl
verdicts_in_range (v ∷ vs) range =
    let parts = and_parts (is_verdict v) (list_all is_verdict vs) range in
    and_from (is_verdict (bare_verdict v)) _ (verdict_in_range v parts.0) (verdicts_in_range vs parts.1)

reply_in_range : (r : Reply) → is_reply r ≡ true → is_reply (bare_reply r) ≡ true
reply_in_range (reply.Verdicts vs) range = verdicts_in_range vs range
reply_in_range r range = range

-- ---- only an offer is answered with verdicts
abbrev HasNoVerdicts : Option Reply → Type 0
HasNoVerdicts None = Unit {0}
HasNoVerdicts (Some (reply.Verdicts vs)) = ⊥
HasNoVerdicts (Some r) = Unit {0}

edit_plain : (o : Result (List Change) EditRefusal) → HasNoVerdicts (edit_reply o)
edit_plain (Ok changes) = tt
edit_plain (Err refused) = tt

end_plain : (s : State) (a : ℕ) (keep : Bool) (o : Option Open) → HasNoVerdicts (end_reply s a keep o)
end_plain s a keep None = tt
end_plain s a keep (Some o) =
    let left = entry_ended a keep o in
    cond_both (nat_lt 0 (length left.entries)) (reply.Waiting (length left.entries)) _ (λ (r : Reply). HasNoVerdicts (Some r)) (λ _. tt)
    (λ _. cond_both left.aborted reply.RolledBack _ (λ (r : Reply). HasNoVerdicts (Some r)) (λ _. tt) (λ _. tt))

take_plain : (s : State) (n : ℕ) → HasNoVerdicts (take_reply s n)
take_plain s n = cond_both (takes_none s n) None _ HasNoVerdicts (λ _. tt) (λ _. tt)

granted_plain : (s : State) (a : ℕ) (e : Event) → HasNoVerdicts (granted s a e)
granted_plain s a (event.Begin text) = tt
granted_plain s a (event.Edit edit) = edit_plain (edit_of (work s) edit)
granted_plain s a (event.End keep) = end_plain s a keep s.current
granted_plain s a event.Undo = tt
granted_plain s a event.Redo = tt
granted_plain s a event.Full = tt
granted_plain s a event.Cancel = tt
granted_plain s a (event.Enable z on) = tt
granted_plain s a event.Read = tt
granted_plain s a event.Wait = cond_both s.whole (reply.SettledAt (last_settled s.steps)) reply.Voided (λ (r : Reply). HasNoVerdicts (Some r)) (λ _. tt) (λ _. tt)
granted_plain s a event.Close = tt
granted_plain s a (event.Take n) = take_plain s n
granted_plain s a (event.Offer ticket) = tt

answered_plain : (s : State) (a : ℕ) (e : Event) (o : Option Refusal) → HasNoVerdicts (answered s a e o)
answered_plain s a e None = granted_plain s a e
answered_plain s a e (Some r) = tt

reply_plain : (s : State) (a : ℕ) (e : Event) → HasNoVerdicts (reply_to s a e)
reply_plain s a event.Wait = cond_both (is_not_yet s) None _ HasNoVerdicts (λ _. tt) (λ _. answered_plain s a event.Wait (refused s a event.Wait))
reply_plain s a (event.Take n) = take_plain s n
reply_plain s a (event.Offer ticket) = tt
reply_plain s a (event.Begin text) = answered_plain s a (event.Begin text) (refused s a (event.Begin text))
reply_plain s a (event.Edit edit) = answered_plain s a (event.Edit edit) (refused s a (event.Edit edit))
reply_plain s a (event.End keep) = answered_plain s a (event.End keep) (refused s a (event.End keep))
reply_plain s a event.Undo = answered_plain s a event.Undo (refused s a event.Undo)
reply_plain s a event.Redo = answered_plain s a event.Redo (refused s a event.Redo)
reply_plain s a event.Full = answered_plain s a event.Full (refused s a event.Full)
reply_plain s a event.Cancel = answered_plain s a event.Cancel (refused s a event.Cancel)
reply_plain s a (event.Enable z on) = answered_plain s a (event.Enable z on) (refused s a (event.Enable z on))
reply_plain s a event.Read = answered_plain s a event.Read (refused s a event.Read)
reply_plain s a event.Close = answered_plain s a event.Close (refused s a event.Close)

-- a reply that isn't verdicts is its own bare one
plain_bare : (s : State) (a : ℕ) (e : Event) (r : Reply) → reply_to s a e ≡ Some r → bare_reply r ≡ r
plain_bare s a e (reply.Verdicts vs) said = absurd (subst HasNoVerdicts said (reply_plain s a e))
plain_bare s a e r said = refl

-- ---- replies
offer_stays : (s : State) (ticket : ℕ) (o : Option Job) (r : Reply) → IsOfferReply s ticket o r → IsOfferReply s ticket o (bare_reply r)
offer_stays s ticket None r is = ap bare_reply is
offer_stays s ticket (Some job) (reply.Verdicts vs) may = verdicts_stay s.enabled job.program job.items vs (first_batch s) may
offer_stays s ticket (Some job) r may = may

abbrev Stays : State → ℕ → Event → Reply → Type 0
Stays s a e r = IsReply s a e r → IsReply s a e (bare_reply r)

said_stays : (s : State) (a : ℕ) (e : Event) (r : Reply) → reply_to s a e ≡ Some r → reply_to s a e ≡ Some (bare_reply r)
said_stays s a e r said = said ∙ sym (ap Some (plain_bare s a e r said))

reply_stays : (s : State) (a : ℕ) (e : Event) (r : Reply) → IsReply s a e r → IsReply s a e (bare_reply r)
reply_stays s a (event.Offer ticket) r may = offer_stays s ticket (job_of ticket s.taken) r may
reply_stays s a (event.Begin text) r said = said_stays s a (event.Begin text) r said
reply_stays s a (event.Edit edit) r said = said_stays s a (event.Edit edit) r said
reply_stays s a (event.End keep) r said = said_stays s a (event.End keep) r said
reply_stays s a event.Undo r said = said_stays s a event.Undo r said
reply_stays s a event.Redo r said = said_stays s a event.Redo r said
reply_stays s a event.Full r said = said_stays s a event.Full r said
reply_stays s a event.Cancel r said = said_stays s a event.Cancel r said
reply_stays s a (event.Enable z on) r said = said_stays s a (event.Enable z on) r said
reply_stays s a event.Read r said = said_stays s a event.Read r said
reply_stays s a event.Wait r said = said_stays s a event.Wait r said
reply_stays s a event.Close r said = said_stays s a event.Close r said
reply_stays s a (event.Take n) r said = said_stays s a (event.Take n) r said

-- ---- what an entry leads to
offered_alike : (s : State) (a ticket : ℕ) (vs : List Verdict) (o : Option Job) → offered_job s a ticket (map bare_verdict vs) o ≡ offered_job s a ticket vs o
offered_alike s a ticket vs None = refl
offered_alike s a ticket vs (Some job) =
    ap (λ (b : Batch). offered_in (record s { taken = other_jobs ticket s.taken }) a b s.current) (all_judged_alike s.enabled job.items vs (first_batch s))

move_alike : (s : State) (a : ℕ) (e : Event) (vs : List Verdict) → move s a e (map bare_verdict vs) ≡ move s a e vs
move_alike s a (event.Offer ticket) vs = offered_alike s a ticket vs (job_of ticket s.taken)
move_alike s a (event.Begin text) vs = refl
move_alike s a (event.Edit edit) vs = refl
move_alike s a (event.End keep) vs = refl
move_alike s a event.Undo vs = refl
move_alike s a event.Redo vs = refl
move_alike s a event.Full vs = refl
move_alike s a event.Cancel vs = refl
move_alike s a (event.Enable z on) vs = refl
move_alike s a event.Read vs = refl
move_alike s a event.Wait vs = refl
move_alike s a event.Close vs = refl
move_alike s a (event.Take n) vs = refl

moved_alike : (s : State) (a : ℕ) (e : Event) (r : Reply) → moved s a e (bare_reply r) ≡ moved s a e r
moved_alike s a e (reply.Verdicts vs) = move_alike s a e vs
moved_alike s a e r = refl

-- ---- entries
pub bare_after : (s : State) (e : Entry) → after s (bare_entry e) ≡ after s e
bare_after s e = ap (λ (t : State). settled (counted t)) (moved_alike s e.actor e.event e.reply)

pub bare_step : (s : State) (e : Entry) → IsStep s e → IsStep s (bare_entry e)
bare_step s e step = record {
  event = step.event;
  parts = reply_in_range e.reply step.parts;
  actor = step.actor;
  room = step.room;
  reply = reply_stays s e.actor e.event e.reply step.reply;
  settled = step.settled ∙ ap settled_step (sym (moved_alike s e.actor e.event e.reply));
}

pub bare_is_step : BareIsStep
bare_is_step s e = (bare_step s e, bare_after s e)
