-- A journal that grows as the lines of an event file are played. Use `call_line`, `ask_line` and `settle_line` for what a line adds
-- and `settle_fails` where an error comes, `playing_more` for the lines so far, and `plays_full` for the error at the next one.
use Rattle.std.proofs.Common.{◌≡◌, ℕ, ◌-◌, true, List, [], ◌∷◌, ◌++◌, length, refl, sym, ap, ◌∙◌, subst, arith, inl, inr, append_assoc}
use Rattle.std.specs.Prelude.{Option, Some, None, drop, flat_map, slice_get, take, ◌||◌}
use Rattle.std.proofs.Math.Seq.{take-append_seam}
use Rattle.std.proofs.lemmas.Grind.{flat_map-append}
use Rattle.std.proofs.lemmas.List.{append-nil, length-replicate, length-set}
use Rattle.std.proofs.lemmas.Option.{none-some}
use Rattle.rvd_fact.specs.Program.{Program}
use Rattle.rvd_event.specs.declared.events.Event.{Event}
use Rattle.rvd_event.specs.declared.events.Event.TheVariants as event
use Rattle.rvd_event.specs.declared.queries.Query.{Query}
use Rattle.rvd_event.specs.declared.replies.Reply.{Reply}
use Rattle.rvd_journal.specs.declared.entries.Entry.{Entry}
use Rattle.rvd_machine.specs.Replies.{is_finished, is_idle}
use Rattle.rvd_machine.specs.State.{State}
use Rattle.rvd_machine.specs.Steps.{after, Head, IsLegal, start_of, state, state_from}
use Rattle.rvd_script.specs.declared.script_lines.EventLine.{EventLine}
use Rattle.rvd_script.specs.declared.script_lines.What1.{What1}
use Rattle.rvd_script.specs.declared.script_lines.What1.TheVariants.{Call, Ask, Settle}
use Rattle.rvd_desk.specs.Story.{Story, entry_of, state_of}
use Rattle.rvd_desk.specs.declared.snapshots.Snapshot.{Snapshot}
use Rattle.rvd_report.specs.declared.answer_lines.Answered.{Answered}
use Rattle.rvd_desk.specs.declared.answers.Halt.{Halt}
use Rattle.rvd_desk.specs.declared.answers.DeskError.{DeskError}
use Rattle.rvd_desk.specs.declared.answers.DeskError.TheVariants.{Refused, JournalFull, Stopped, OutOfMemory}
use Rattle.rvd_machine.specs.Proper.{AreProper, IsProper, IsProperTo}
use Rattle.rvd_settle.specs.Settling.{ArePairs, EndsWithTake, GoesOn, IsFull, Settles, StopsShort}
use Rattle.rvd_machine.proofs.Journals.{state_from-append}
use Rattle.rvd_settle.proofs.Pairs.{goes-state}
use Rattle.rvd_player.specs.Lines.{AreOf, AreOfWhat, HasNoRoom, IsFullAt, LineFails, PlaysCall, PlaysSeeing, PlaysWhat}
use Rattle.rvd_player.specs.Plays.{none_seen, PlayFails, Plays}
use Rattle.rvd_desk.specs.Shown.{shown_by}
use Rattle.rvd_player.specs.Seen.{Seen, answer_to, answers_of, seen_after, seen_with}

abbrev with_journal : Story → List Entry → Story
with_journal d J = record d { journal = J }

-- ---- the entries of a settle
proper-append : (s : State) (J K : List Entry) → AreProper s J → AreProper (state_from s J) K → AreProper s (J ++ K)
proper-append s [] K proper more = more
proper-append s (e ∷ J) K proper more = (proper.0, proper-append (after s e) J K proper.1 more)

take_proper : (s : State) (w n : ℕ) (x : Entry) → x.event ≡ event.Take n → IsProper s x
take_proper s w n x is = subst (λ (e : Event). IsProperTo s e x.reply) (sym is) tt

pairs_proper : (s : State) (w n : ℕ) (entries : List Entry) → ArePairs s w n entries → AreProper s entries
pairs_proper s w n [] pairs = tt
pairs_proper s w n (x ∷ []) pairs = absurd pairs
pairs_proper s w n (x ∷ y ∷ entries) pairs = (take_proper s w n x pairs.0.taken.event, (pairs.0.proper, pairs_proper (after (after s x) y) w n entries pairs.1))

-- neither a take nor an offer shows its worker anything
unseen : (s : State) (e : Event) (r : Reply) → (e ≡ event.Read → ⊥) → shown_by s e r ≡ None
unseen s event.Read r other = absurd (other refl)
unseen s e r other = refl

kept_unseen : (s : State) (seen : Seen) (x : Entry) → (x.event ≡ event.Read → ⊥) → seen_with seen x.actor (shown_by s x.event x.reply) ≡ seen
kept_unseen s seen x other = ap (seen_with seen x.actor) (unseen s x.event x.reply other)

take_read : (n : ℕ) (e : Event) → e ≡ event.Take n → e ≡ event.Read → ⊥
take_read n e take read = cc

offer_read : (ticket : ℕ) (e : Event) → e ≡ event.Offer ticket → e ≡ event.Read → ⊥
offer_read ticket e offer read = cc

pairs_unseen : (s : State) (seen : Seen) (w n : ℕ) (entries : List Entry) → ArePairs s w n entries → seen ≡ seen_after s seen entries
pairs_unseen s seen w n [] pairs = refl
pairs_unseen s seen w n (x ∷ []) pairs = absurd pairs
pairs_unseen s seen w n (x ∷ y ∷ entries) pairs =
    let first : seen_with seen x.actor (shown_by s x.event x.reply) ≡ seen = kept_unseen s seen x (take_read n x.event pairs.0.taken.event) in
    let second : seen_with seen y.actor (shown_by (after s x) y.event y.reply) ≡ seen = kept_unseen (after s x) seen y (offer_read pairs.0.ticket y.event pairs.0.offered.event) in
    pairs_unseen (after (after s x) y) seen w n entries pairs.1
    ∙ ap (λ (t : Seen). seen_after (after (after s x) y) t entries) (sym second)
    ∙ ap (λ (t : Seen). seen_after (after (after s x) y) (seen_with t y.actor (shown_by (after s x) y.event y.reply)) entries) (sym first)

pub settle_line : (old new : Story) (seen : Seen) (w n jobs : ℕ) → Settles old new w n jobs → PlaysWhat old seen w (Settle n) new seen
settle_line old new seen w n jobs s =
    let g = s.goes_on in record {
      entries = g.entries;
      own = (g.pairs, subst (λ (t : State). (is_finished t || is_idle t) ≡ true) (goes-state old new w n jobs g) s.done);
      proper = pairs_proper (state_of old) w n g.entries g.pairs;
      grown = g.grown;
      shown = pairs_unseen (state_of old) seen w n g.entries g.pairs;
    }

-- ---- the entries of a call, and of a query
pub seeing : (old new : Story) (seen : Seen) (actor : ℕ) (e : Event) → (e ≡ event.Read → ⊥) → PlaysCall old actor e new → PlaysSeeing old seen actor e new seen
seeing old new seen actor e other played = elim played [
  | inl made ↦ inl (made.0, made.1, made.2, ap (seen_with seen actor) (sym (unseen (state_of old) e made.0 other)))
  | inr out ↦ inr (out.0, out.1, refl)
]

pub call_line : (old new : Story) (seen sees : Seen) (actor : ℕ) (e : Event) → PlaysSeeing old seen actor e new sees → PlaysWhat old seen actor (Call e) new sees
call_line old new seen sees actor e played = elim played [
  | inl made ↦ record {
    entries = entry_of (state_of old) actor e made.0 ∷ [];
    own = (refl, refl);
    proper = (made.2, tt);
    grown = made.1.grown;
    shown = made.3;
  }
  | inr out ↦ record {
    entries = [];
    own = out.1;
    proper = tt;
    grown = out.0 ∙ ap (with_journal old) (sym (append-nil old.journal));
    shown = out.2;
  }
]

pub ask_line : (old : Story) (seen : Seen) (actor : ℕ) (query : Query) → PlaysWhat old seen actor (Ask query) old seen
ask_line old seen actor query = record { entries = []; own = refl; proper = tt; grown = ap (with_journal old) (sym (append-nil old.journal)); shown = refl }

room_for_two : (old new : Story) (w n : ℕ) → IsFull old new w n → HasNoRoom new
room_for_two old new w n is = let full = is.full in omega (arith, full)

full_pairs : (old new : Story) (w n jobs : ℕ) → GoesOn old new w n jobs → HasNoRoom new → IsFullAt old w (Settle n) new
full_pairs old new w n jobs g full = record {
  entries = g.entries;
  begun = inl g.pairs;
  proper = pairs_proper (state_of old) w n g.entries g.pairs;
  grown = g.grown;
  full = full;
}

full_take : (old new : Story) (w n : ℕ) → EndsWithTake old new w n → HasNoRoom new → IsFullAt old w (Settle n) new
full_take old new w n t full =
    let g = t.goes_on in record {
      entries = g.entries ++ t.last ∷ [];
      begun = inr (g.entries, t.last, refl, g.pairs, t.take);
      proper = proper-append (state_of old) g.entries (t.last ∷ []) (pairs_proper (state_of old) w n g.entries g.pairs) (take_proper (state_from (state_of old) g.entries) w n t.last t.take.taken.event, tt);
      grown =
          t.grown
          ∙ ap (λ (e : Story). with_journal e (e.journal ++ t.last ∷ [])) g.grown
          ∙ ap (with_journal old) (append_assoc old.journal g.entries (t.last ∷ []));
      full = full;
    }

full_settle : (old new : Story) (w n : ℕ) → IsFull old new w n → IsFullAt old w (Settle n) new
full_settle old new w n is = elim is.stands [
  | inl pairs ↦ full_pairs old new w n pairs.0 pairs.1 (room_for_two old new w n is)
  | inr take_too ↦ full_take old new w n take_too (room_for_two old new w n is)
]

pub settle_fails : (old new : Story) (l : EventLine) (n : ℕ) (error : DeskError) → old.halt ≡ None → l.what ≡ Settle n → StopsShort old new l.actor n error → LineFails old l new error
settle_fails old new l n (Refused refusal) running is short = absurd short
settle_fails old new l n (JournalFull count) running is short = (short.0, subst (λ (w : What1). IsFullAt old l.actor w new) (sym is) (full_settle old new l.actor n short.1))
settle_fails old new l n (Stopped halt) running is short = absurd (none-some halt (sym running ∙ short.1))
settle_fails old new l n OutOfMemory running is short = tt

-- ---- lines one after the other
abbrev pub all_of : List (List Entry) → List Entry
all_of parts = flat_map (λ (part : List Entry). part) parts

all-push : (parts : List (List Entry)) (more : List Entry) → all_of (parts ++ more ∷ []) ≡ all_of parts ++ more
all-push parts more = flat_map-append (λ (part : List Entry). part) parts (more ∷ []) ∙ ap (λ (es : List Entry). all_of parts ++ es) (append-nil more)

of-push : (s : State) (lines : List EventLine) (parts : List (List Entry)) (l : EventLine) (more : List Entry) → AreOf s lines parts → AreOfWhat (state_from s (all_of parts)) l.actor l.what more → AreOf s (lines ++ l ∷ []) (parts ++ more ∷ [])
of-push s [] [] l more are own = (own, tt)
of-push s [] (part ∷ parts) l more are own = absurd are
of-push s (x ∷ lines) [] l more are own = absurd are
of-push s (x ∷ lines) (part ∷ parts) l more are own =
    (are.0, of-push (state_from s part) lines parts l more are.1 (subst (λ (t : State). AreOfWhat t l.actor l.what more) (state_from-append s part (all_of parts)) own))

seen-append : (s : State) (seen : Seen) (J K : List Entry) → seen_after s seen (J ++ K) ≡ seen_after (state_from s J) (seen_after s seen J) K
seen-append s seen [] K = refl
seen-append s seen (e ∷ J) K = seen-append (after s e) (seen_with seen e.actor (shown_by s e.event e.reply)) J K

answers-push : (P : Program) (s : State) (seen : Seen) (lines : List EventLine) (parts : List (List Entry)) (l : EventLine) (more : List Entry) → AreOf s lines parts → answers_of P s seen (lines ++ l ∷ []) (parts ++ more ∷ []) ≡ answers_of P s seen lines parts ++ answer_to P (seen_after s seen (all_of parts)) l l.what
answers-push P s seen [] [] l more are = append-nil (answer_to P seen l l.what)
answers-push P s seen [] (part ∷ parts) l more are = absurd are
answers-push P s seen (x ∷ lines) [] l more are = absurd are
answers-push P s seen (x ∷ lines) (part ∷ parts) l more are =
    ap (λ (rest : List Answered). answer_to P seen x x.what ++ rest)
    (answers-push P (state_from s part) (seen_after s seen part) lines parts l more are.1
    ∙ ap (λ (t : Seen). answers_of P (state_from s part) (seen_after s seen part) lines parts ++ answer_to P t l l.what) (sym (seen-append s seen part (all_of parts))))
    ∙ sym (append_assoc (answer_to P seen x x.what) (answers_of P (state_from s part) (seen_after s seen part) lines parts) (answer_to P (seen_after s seen (part ++ all_of parts)) l l.what))

-- how many sessions there are doesn't change with what they see
length-seen_with : (seen : Seen) (actor : ℕ) (o : Option Snapshot) → length (seen_with seen actor o) ≡ length seen
length-seen_with seen actor None = refl
length-seen_with seen actor (Some x) = length-set seen (actor - 1) (Some x)

length-seen : (s : State) (seen : Seen) (J : List Entry) → length (seen_after s seen J) ≡ length seen
length-seen s seen [] = refl
length-seen s seen (e ∷ J) = length-seen (after s e) (seen_with seen e.actor (shown_by s e.event e.reply)) J ∙ length-seen_with seen e.actor (shown_by s e.event e.reply)

-- lines that are played, with what the sessions see then
pub record Playing (h : Head) (lines : List EventLine) (d : Story) (answers : List Answered) (seen : Seen) : Type 0 where
  pub plays : Plays h lines d answers
  pub now : seen ≡ seen_after (start_of h) (none_seen h) d.journal
  pub sessions : length seen ≡ h.sessions

pub playing_none : (h : Head) (d : Story) (answers : List Answered) (seen : Seen) → d ≡ record { head = h; journal = []; halt = None } → IsLegal d.head d.journal → answers ≡ [] → seen ≡ none_seen h → Playing h [] d answers seen
playing_none h d answers seen is legal unasked none =
    let head : d.head ≡ h = ap (λ (x : Story). x.head) is in
    let empty : d.journal ≡ [] = ap (λ (x : Story). x.journal) is in record {
      plays = record {
        head = head;
        running = ap (λ (x : Story). x.halt) is;
        legal = subst (λ (k : Head). IsLegal k d.journal) head legal;
        parts = [];
        entries = tt;
        in_order = empty;
        proper = subst (AreProper (start_of h)) (sym empty) tt;
        answered = unasked;
      };
      now = none ∙ ap (seen_after (start_of h) (none_seen h)) (sym empty);
      sessions = ap length none ∙ length-replicate h.sessions None;
    }

state_here : (h : Head) (lines : List EventLine) (d : Story) (answers : List Answered) → Plays h lines d answers → state_of d ≡ state_from (start_of h) d.journal
state_here h lines d answers p = ap (λ (k : Head). state k d.journal) p.head

pub playing_more : (h : Head) (lines : List EventLine) (l : EventLine) (d new : Story) (answers more_answers : List Answered) (seen sees : Seen) → Playing h lines d answers seen → PlaysWhat d seen l.actor l.what new sees → IsLegal new.head new.journal → more_answers ≡ answers ++ answer_to h.program seen l l.what → Playing h (lines ++ l ∷ []) new more_answers sees
playing_more h lines l d new answers more_answers seen sees playing more legal told =
    let p = playing.plays in
    let head : new.head ≡ h = ap (λ (x : Story). x.head) more.grown ∙ p.head in
    let longer : new.journal ≡ d.journal ++ more.entries = ap (λ (x : Story). x.journal) more.grown in
    let here = state_here h lines d answers p in
    let there : state_of d ≡ state_from (start_of h) (all_of p.parts) = here ∙ ap (state_from (start_of h)) p.in_order in
    let now_seen : sees ≡ seen_after (start_of h) (none_seen h) new.journal =
    more.shown
    ∙ ap (λ (t : State). seen_after t seen more.entries) here
    ∙ ap (λ (t : Seen). seen_after (state_from (start_of h) d.journal) t more.entries) playing.now
    ∙ sym (seen-append (start_of h) (none_seen h) d.journal more.entries)
    ∙ ap (seen_after (start_of h) (none_seen h)) (sym longer) in record {
      plays = record {
        head = head;
        running = ap (λ (x : Story). x.halt) more.grown ∙ p.running;
        legal = subst (λ (k : Head). IsLegal k new.journal) head legal;
        parts = p.parts ++ more.entries ∷ [];
        entries = of-push (start_of h) lines p.parts l more.entries p.entries (subst (λ (t : State). AreOfWhat t l.actor l.what more.entries) there more.own);
        in_order = longer ∙ ap (λ (es : List Entry). es ++ more.entries) p.in_order ∙ sym (all-push p.parts more.entries);
        proper = subst (AreProper (start_of h)) (sym longer) (proper-append (start_of h) d.journal more.entries p.proper (subst (λ (t : State). AreProper t more.entries) here more.proper));
        answered =
            told
            ∙ ap (λ (given : List Answered). given ++ answer_to h.program seen l l.what) p.answered
            ∙ ap (λ (t : Seen). answers_of h.program (start_of h) (none_seen h) lines p.parts ++ answer_to h.program t l l.what) (playing.now ∙ ap (seen_after (start_of h) (none_seen h)) p.in_order)
            ∙ sym (answers-push h.program (start_of h) (none_seen h) lines p.parts l more.entries p.entries);
      };
      now = now_seen;
      sessions = ap length now_seen ∙ length-seen (start_of h) (none_seen h) new.journal ∙ length-replicate h.sessions None;
    }

-- what is written back to a vector from a slice of all of it
pub written_back : (sees seen : Seen) (n : ℕ) → n ≡ length seen → length sees ≡ length seen → take n (sees ++ drop (length sees) seen) ≡ sees
written_back sees seen n own same = ap (λ (k : ℕ). take k (sees ++ drop (length sees) seen)) (own ∙ sym same) ∙ take-append_seam sees (drop (length sees) seen)

pub length-sees : (old new : Story) (seen sees : Seen) (actor : ℕ) (what : What1) → PlaysWhat old seen actor what new sees → length sees ≡ length seen
length-sees old new seen sees actor what more = ap length more.shown ∙ length-seen (state_of old) seen more.entries

-- the error at the next line
pub plays_full : (h : Head) (lines : List EventLine) (number : ℕ) (l : EventLine) (d new : Story) (answers : List Answered) (error : DeskError) → Plays h (take number lines) d answers → slice_get lines number ≡ Some l → IsLegal new.head new.journal → LineFails d l new error → PlayFails h lines error
plays_full h lines number l d new answers (Refused refusal) p at legal failed = failed
plays_full h lines number l d new answers (JournalFull count) p at legal failed = record {
  number = number;
  played = d;
  answers = answers;
  plays = p;
  next = l;
  is_next = at;
  last = new;
  full = failed.1;
  legal = subst (λ (k : Head). IsLegal k new.journal) (ap (λ (x : Story). x.head) failed.1.grown ∙ p.head) legal;
  counted = failed.0;
}
plays_full h lines number l d new answers (Stopped halt) p at legal failed = failed
plays_full h lines number l d new answers OutOfMemory p at legal failed = tt
