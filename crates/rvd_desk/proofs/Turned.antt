-- What a turn makes of the pass that took it. Use `goes_did`, `goes_same` and `continued` for the story that is given back,
-- `did_pass` and `same_pass` for the pass behind it, and `turn_of` and `looked_of` for what it tells.
use Rattle.std.proofs.Common.{◌≡◌, ℕ, false, List, [], ◌∷◌, ◌++◌, length, drop, Option, Some, refl, sym, ap, ◌∙◌, append-nil}
use Rattle.std.specs.Prelude.{Result, Ok, Err, IfOk, IfErr}
use Rattle.std.proofs.lemmas.List.Elements.{All-nil, All-cons}
use Rattle.std.proofs.lemmas.Option.{same_Some}
use Rattle.rvd_event.specs.declared.events.Event.{Event}
use Rattle.rvd_event.specs.declared.replies.Reply.{Reply}
use Rattle.rvd_journal.specs.declared.entries.Entry.{Entry}
use Rattle.rvd_machine.specs.Steps.{Head, IsLegal}
use Rattle.rvd_turn.specs.Known.{taken_by, given_by}
use Rattle.rvd_turn.specs.Story.{Continues, IsPrefix, owned}
use Rattle.rvd_desk.specs.declared.answers.DeskError.{DeskError}
use Rattle.rvd_desk.specs.declared.answers.DeskError.TheVariants.{Refused, JournalFull, Stopped, OutOfMemory}
use Rattle.rvd_desk.specs.Calls.{Did}
use Rattle.rvd_desk.specs.Story.{Story, entry_of, state_of}
use Rattle.rvd_desk.specs.Turns.{Looked, Passing, SameStory, TurnOf, Unmade, added, looked}

abbrev pub owner : Entry → ℕ
owner e = e.actor

-- ---- the story that is given back
pub goes_did : (old new : Story) (a n : ℕ) (e : Event) (r : Reply) (seen : List Entry) → seen ≡ old.journal → a ≡ n → Did old new a e r → Continues owner n seen new.journal
goes_did old new a n e r seen at is did =
    let x = entry_of (state_of old) a e r in
    (x ∷ [], ap (λ (d : Story). d.journal) did.grown ∙ ap (λ l. l ++ x ∷ []) (sym at), All-cons (λ y. owner y ≡ n) x [] is (All-nil (λ y. owner y ≡ n)))

pub goes_same : (old new : Story) (n : ℕ) (seen : List Entry) → seen ≡ old.journal → SameStory old new → Continues owner n seen new.journal
goes_same old new n seen at same = ([], same.1 ∙ sym at ∙ sym (append-nil seen), All-nil (λ y. owner y ≡ n))

pub unmade_same : (old new : Story) (a : ℕ) (e : Event) (error : DeskError) → Unmade old new a e error → SameStory old new
unmade_same old new a e (Refused r) h = absurd h
unmade_same old new a e (JournalFull n) h = h.0
unmade_same old new a e (Stopped halt) h = h.0
unmade_same old new a e OutOfMemory h = h.0

pub continued : (r : Result Reply DeskError) (old new : Story) (a n : ℕ) (e : Event) (seen : List Entry) → seen ≡ old.journal → a ≡ n → IfOk r (λ x. Did old new a e x) → IfErr r (λ error. Unmade old new a e error) → Continues owner n seen new.journal
continued (Ok x) old new a n e seen at is did not = goes_did old new a n e x seen at is did
continued (Err error) old new a n e seen at is did not = goes_same old new n seen at (unmade_same old new a e error not)

pub head_same : (r : Result Reply DeskError) (old new : Story) (a : ℕ) (e : Event) → IfOk r (λ x. Did old new a e x) → IfErr r (λ error. Unmade old new a e error) → new.head ≡ old.head
head_same (Ok x) old new a e did not = ap (λ (d : Story). d.head) did.grown
head_same (Err error) old new a e did not = (unmade_same old new a e error not).0

-- ---- the pass behind the turn
drop_all : (xs ys : List Entry) → drop (length xs) (xs ++ ys) ≡ ys
drop_all [] ys = refl
drop_all (x ∷ xs) ys = drop_all xs ys

-- a pass took the story `log` and gave it back with more
pub given : (p q r : Passing) (log more : List Entry) → q ≡ taken_by p log → r ≡ given_by q (log ++ more) → r ≡ record p { own = p.own ++ more; seen = log ++ more; turn = false }
given p q r log more took gave =
    gave ∙ ap (λ (k : Passing). given_by k (log ++ more)) took
    ∙ ap (λ l. record p { own = p.own ++ l; seen = log ++ more; turn = false }) (drop_all log more)

-- a desk in a turn, as the pass that took it sees it
pub record Taken (p q : Passing) (d : Story) : Type 0 where
  pub took : q ≡ taken_by p d.journal
  pub head : p.head ≡ Some d.head
  pub seen : IsPrefix p.seen d.journal
  pub own : owned owner p.number d.journal ≡ p.own

pub turn_of : (p q : Passing) (d : Story) → Taken p q d → IsLegal d.head d.journal → TurnOf p d.head d.journal
turn_of p q d t legal = record { about = t.head; begins = t.seen; mine = t.own; legal = legal }

pub did_pass : (p q r : Passing) (d new : Story) (a : ℕ) (e : Event) (x : Reply) → Taken p q d → p.turn ≡ false → p.number ≡ a → r ≡ given_by q new.journal → Did d new a e x
    → r ≡ added p d.journal (entry_of (state_of d) p.number e x)
did_pass p q r d new a e x t idle is gave did =
    let y = entry_of (state_of d) a e x in
    given p q r d.journal (y ∷ []) t.took (gave ∙ ap (λ (s : Story). given_by q s.journal) did.grown)
    ∙ ap (λ b. record p { own = p.own ++ y ∷ []; seen = d.journal ++ y ∷ []; turn = b }) (sym idle)
    ∙ ap (λ n. added p d.journal (entry_of (state_of d) n e x)) (sym is)

pub same_pass : (p q r : Passing) (d new : Story) → Taken p q d → p.turn ≡ false → r ≡ given_by q new.journal → SameStory d new → r ≡ looked p d.journal
same_pass p q r d new t idle gave same =
    given p q r d.journal [] t.took (gave ∙ ap (given_by q) (same.1 ∙ sym (append-nil d.journal)))
    ∙ ap (λ l. record p { own = l; seen = d.journal ++ []; turn = false }) (append-nil p.own)
    ∙ ap (λ l. record p { seen = l; turn = false }) (append-nil d.journal)
    ∙ ap (λ b. record p { seen = d.journal; turn = b }) (sym idle)

abbrev pub looked_of : (p q r : Passing) (d new : Story) → Taken p q d → p.turn ≡ false → IsLegal d.head d.journal → r ≡ given_by q new.journal → SameStory d new → Looked p r
looked_of p q r d new t idle legal gave same = record { head = d.head; log = d.journal; turn = turn_of p q d t legal; pass = same_pass p q r d new t idle gave same }

-- ---- the parts of a take
pub taken_as : (p q : Passing) (d : Story) → q ≡ taken_by p d.journal → p.head ≡ Some d.head → IsPrefix p.seen d.journal → owned owner p.number d.journal ≡ p.own → Taken p q d
taken_as p q d took head seen own = record { took = took; head = head; seen = seen; own = own }

pub heads : (k h : Head) (o : Option Head) → o ≡ Some k → o ≡ Some h → k ≡ h
heads k h o a b = same_Some k h (sym a ∙ b)
