-- What is left of an entry without the bytes of blocks has the same text and is in range too. Use `bare_entry-line` and
-- `bare_entry-range`, and `has-form` for one answer.
use Rattle.std.proofs.Common.{◌≡◌, ℕ, Bool, ◌&&◌, List, [], ◌∷◌, ◌++◌, map, Some, None, codes, refl, ap, ◌∙◌}
use Rattle.std.specs.List.{AllByRecursion, list_all}
use Rattle.std.specs.Fmt.{decimal}
use Rattle.rvd_fact.specs.declared.keys.Key.{Key}
use Rattle.rvd_fact.specs.declared.values.Value.{Value}
use Rattle.rvd_fact.specs.declared.values.Value.TheVariants as value
use Rattle.rvd_ask.specs.declared.asks.Ask.{Ask}
use Rattle.rvd_ask.specs.declared.asks.Ask.TheVariants as ask
use Rattle.rvd_ask.specs.declared.answers.Answer.{Answer}
use Rattle.rvd_ask.specs.declared.answers.Answer.TheVariants as answer
use Rattle.rvd_ask.specs.Forms.{has_form}
use Rattle.rvd_event.specs.declared.queries.Names.{Names}
use Rattle.rvd_event.specs.declared.verdicts.Verdict.{Verdict}
use Rattle.rvd_event.specs.declared.verdicts.Verdict.TheVariants.{Stale, Foreign}
use Rattle.rvd_event.specs.declared.replies.Reply.{Reply}
use Rattle.rvd_event.specs.declared.replies.Reply.TheVariants.{Verdicts}
use Rattle.rvd_event.specs.Verdicts.{has_forms}
use Rattle.rvd_journal.specs.declared.entries.Entry.{Entry}
use Rattle.rvd_notation.specs.Values.{fact_text}
use Rattle.rvd_notation.specs.Actors.{actor_text}
use Rattle.rvd_notation.specs.Words.{source_word}
use Rattle.rvd_reading.specs.Values.{FitsValue, bare}
use Rattle.rvd_journal_text.specs.Answers.{answer_text, ask_text}
use Rattle.rvd_journal_text.specs.Events.{event_text}
use Rattle.rvd_journal_text.specs.Verdicts.{difference_text, more_verdicts, verdict_text, verdicts_text}
use Rattle.rvd_journal_text.specs.Replies.{reply_text}
use Rattle.rvd_journal_text.specs.Lines.{entry_line, call_text, settled_text}
use Rattle.rvd_journal_reading.specs.Answers.{FitsAnswer, bare_answer}
use Rattle.rvd_journal_reading.specs.Verdicts.{FitsVerdict, bare_verdict}
use Rattle.rvd_line_reading.specs.Replies.{FitsReply, are_formed, bare_reply}
use Rattle.rvd_line_reading.specs.Lines.{IsInRange, bare_entry}

-- the same text
fact : (k : Key) (v : Value) → fact_text k (bare v) ≡ fact_text k v
unfolding fact_text
fact k (value.Block len perm None) = refl
fact k (value.Block len perm (Some bytes)) = refl
fact k v = refl

answered : (q : Ask) (a : Answer) → answer_text q (bare_answer a) ≡ answer_text q a
unfolding answer_text
answered (ask.Cell k) (answer.Cell (Some c)) = ap (λ (t : List ℕ). codes "[" ++ (source_word c.source ++ codes " " ++ t) ++ codes "]") (fact k c.value)
answered q (answer.Cell (Some c)) = refl
answered q (answer.Cell None) = refl
answered q (answer.At start) = refl
answered q (answer.Bytes bytes) = refl
answered q (answer.Yes truth) = refl
answered q (answer.Refs references) = refl

differ : (q : Ask) (a b : Answer) → difference_text q (bare_answer a) (bare_answer b) ≡ difference_text q a b
differ q a b =
    ap (λ (t : List ℕ). ask_text q ++ codes " " ++ t ++ codes " " ++ answer_text q (bare_answer b)) (answered q a)
    ∙ ap (λ (t : List ℕ). ask_text q ++ codes " " ++ answer_text q a ++ codes " " ++ t) (answered q b)

told : (v : Verdict) → verdict_text (bare_verdict v) ≡ verdict_text v
unfolding verdict_text
told (Stale q a b) = ap (λ (t : List ℕ). codes "stale " ++ t) (differ q a b)
told (Foreign q a b) = ap (λ (t : List ℕ). codes "foreign " ++ t) (differ q a b)
told v = refl

more_told : (vs : List Verdict) → more_verdicts (map bare_verdict vs) ≡ more_verdicts vs
more_told [] = refl
more_told (v ∷ vs) =
    ap (λ (t : List ℕ). codes " " ++ t ++ more_verdicts (map bare_verdict vs)) (told v)
    ∙ ap (λ (t : List ℕ). codes " " ++ verdict_text v ++ t) (more_told vs)

all_told : (vs : List Verdict) → verdicts_text (map bare_verdict vs) ≡ verdicts_text vs
all_told [] = refl
all_told (v ∷ vs) =
    ap (λ (t : List ℕ). t ++ more_verdicts (map bare_verdict vs)) (told v)
    ∙ ap (λ (t : List ℕ). verdict_text v ++ t) (more_told vs)

replied : (r : Reply) → reply_text (bare_reply r) ≡ reply_text r
unfolding reply_text
replied (Verdicts vs) = all_told vs
replied r = refl

pub bare_entry-line : (names : Names) (number : ℕ) (e : Entry) → entry_line names number (bare_entry e) ≡ entry_line names number e
unfolding entry_line call_text
bare_entry-line names number e =
    ap (λ (t : List ℕ). decimal number ++ codes " " ++ (actor_text names e.actor ++ codes " " ++ event_text e.event ++ codes " = " ++ t) ++ settled_text e.settled) (replied e.reply)

-- in range
value-fits : (v : Value) → FitsValue v → FitsValue (bare v)
value-fits (value.Block len perm None) fits = fits
value-fits (value.Block len perm (Some bytes)) fits = fits
value-fits v fits = fits

answer-fits : (a : Answer) → FitsAnswer a → FitsAnswer (bare_answer a)
answer-fits (answer.Cell (Some c)) fits = value-fits c.value fits
answer-fits a fits = fits

verdict-fits : (v : Verdict) → FitsVerdict v → FitsVerdict (bare_verdict v)
verdict-fits (Stale q a b) fits = (fits.0, answer-fits a fits.1, answer-fits b fits.2)
verdict-fits (Foreign q a b) fits = (fits.0, answer-fits a fits.1, answer-fits b fits.2)
verdict-fits v fits = fits

verdicts-fit : (vs : List Verdict) → AllByRecursion FitsVerdict vs → AllByRecursion FitsVerdict (map bare_verdict vs)
verdicts-fit [] fits = tt
verdicts-fit (v ∷ vs) fits = (verdict-fits v fits.0, verdicts-fit vs fits.1)

reply-fits : (r : Reply) → FitsReply r → FitsReply (bare_reply r)
reply-fits (Verdicts vs) fits = verdicts-fit vs fits
reply-fits r fits = fits

-- of its ask's form
pub has-form : (q : Ask) (a : Answer) → has_form q (bare_answer a) ≡ has_form q a
has-form (ask.Cell k) (answer.Cell (Some c)) = refl
has-form q (answer.Cell (Some c)) = refl
has-form q (answer.Cell None) = refl
has-form q (answer.At start) = refl
has-form q (answer.Bytes bytes) = refl
has-form q (answer.Yes truth) = refl
has-form q (answer.Refs references) = refl

forms : (v : Verdict) → has_forms (bare_verdict v) ≡ has_forms v
forms (Stale q a b) = ap (λ (t : Bool). t && has_form q (bare_answer b)) (has-form q a) ∙ ap (λ (t : Bool). has_form q a && t) (has-form q b)
forms (Foreign q a b) = ap (λ (t : Bool). t && has_form q (bare_answer b)) (has-form q a) ∙ ap (λ (t : Bool). has_form q a && t) (has-form q b)
forms v = refl

all_forms : (vs : List Verdict) → list_all has_forms (map bare_verdict vs) ≡ list_all has_forms vs
all_forms [] = refl
all_forms (v ∷ vs) = ap (λ (t : Bool). t && list_all has_forms (map bare_verdict vs)) (forms v) ∙ ap (λ (t : Bool). has_forms v && t) (all_forms vs)

reply-formed : (r : Reply) → are_formed (bare_reply r) ≡ are_formed r
reply-formed (Verdicts vs) = all_forms vs
reply-formed r = refl

pub bare_entry-range : (names : Names) (e : Entry) → IsInRange names e → IsInRange names (bare_entry e)
bare_entry-range names e range = record {
  known = range.known;
  actor = range.actor;
  event = range.event;
  reply = reply-fits e.reply range.reply;
  forms = reply-formed e.reply ∙ range.forms;
  settled = range.settled;
}
