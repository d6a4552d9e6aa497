-- What a turn makes of a worker's pass. Use `took_continues` and `offered_continues` for the story that is given back, `took_of`
-- for a take, and `offered_of` for an offer.
use Rattle.std.proofs.Common.{◌≡◌, ℕ, List, [], ◌∷◌, ◌++◌, Option, Some, None, refl, sym, ap, ◌∙◌, subst}
use Rattle.std.specs.Prelude.{Result, Ok, Err, IfOk, IfErr, false}
use Rattle.rvd_ask.specs.Promise.{Proposed}
use Rattle.rvd_event.specs.declared.events.Event.TheVariants as event
use Rattle.rvd_event.specs.declared.replies.Reply.{Reply}
use Rattle.rvd_event.specs.declared.replies.Reply.TheVariants as reply
use Rattle.rvd_journal.specs.declared.entries.Entry.{Entry}
use Rattle.rvd_machine.specs.Replies.{is_finished}
use Rattle.rvd_machine.specs.Steps.{Head, IsLegal, IsStep, state}
use Rattle.rvd_turn.specs.Known.{taken_by, given_by}
use Rattle.rvd_turn.specs.Story.{Continues}
use Rattle.rvd_desk.specs.Calls.{Did, OfferedBy, TookBy}
use Rattle.rvd_desk.specs.Story.{Story, entry_of, state_of}
use Rattle.rvd_desk.specs.Turns.{Looked, Passing, SameStory}
use Rattle.rvd_desk.specs.declared.answers.DeskError.{DeskError}
use Rattle.rvd_desk.specs.declared.answers.Took.{Took}
use Rattle.rvd_desk.specs.declared.answers.Took.TheVariants.{Job, Idle, Finished}
use Rattle.rvd_desk.proofs.Turned.{Taken, did_pass, goes_did, goes_same, looked_of, turn_of}
use Rattle.rvd_work.specs.Working.{OfferedIn, TookIn, TookTurn}

same_desk : (old new : Story) → new ≡ old → SameStory old new
same_desk old new is = (ap (λ (d : Story). d.head) is, ap (λ (d : Story). d.journal) is)

pub took_continues : (r : Result Took DeskError) (old new : Story) (a m n : ℕ) (seen : List Entry) → seen ≡ old.journal → a ≡ m → IfOk r (λ t. TookBy old new a n t) → IfErr r (λ error. SameStory old new) → Continues (λ (e : Entry). e.actor) m seen new.journal
took_continues (Ok (Job j)) old new a m n seen at is took not = goes_did old new a m (event.Take n) (reply.Job j.ticket j.items) seen at is took.0
took_continues (Ok Idle) old new a m n seen at is took not = goes_same old new m seen at (same_desk old new took.0)
took_continues (Ok Finished) old new a m n seen at is took not = goes_same old new m seen at (same_desk old new took.0)
took_continues (Err error) old new a m n seen at is took not = goes_same old new m seen at not

pub took_head : (r : Result Took DeskError) (old new : Story) (a n : ℕ) → IfOk r (λ t. TookBy old new a n t) → IfErr r (λ error. SameStory old new) → new.head ≡ old.head
took_head (Ok (Job j)) old new a n took not = ap (λ (d : Story). d.head) took.0.grown
took_head (Ok Idle) old new a n took not = ap (λ (d : Story). d.head) took.0
took_head (Ok Finished) old new a n took not = ap (λ (d : Story). d.head) took.0
took_head (Err error) old new a n took not = not.0

pub offered_continues : (r : Result Reply DeskError) (old new : Story) (a m ticket : ℕ) (ps : List Proposed) (seen : List Entry) → seen ≡ old.journal → a ≡ m → IfOk r (λ x. OfferedBy old new a ticket ps x) → IfErr r (λ error. SameStory old new) → Continues (λ (e : Entry). e.actor) m seen new.journal
offered_continues (Ok x) old new a m ticket ps seen at is offered not = goes_did old new a m (event.Offer ticket) x seen at is offered.0
offered_continues (Err error) old new a m ticket ps seen at is offered not = goes_same old new m seen at not

pub offered_head : (r : Result Reply DeskError) (old new : Story) (a ticket : ℕ) (ps : List Proposed) → IfOk r (λ x. OfferedBy old new a ticket ps x) → IfErr r (λ error. SameStory old new) → new.head ≡ old.head
offered_head (Ok x) old new a ticket ps offered not = ap (λ (d : Story). d.head) offered.0.grown
offered_head (Err error) old new a ticket ps offered not = not.0

module _ (a : ℕ) (p q w : Passing) (d new : Story) (took : Taken p q d) (rest : p.turn ≡ false) (number : p.number ≡ a) (legal : IsLegal d.head d.journal) (gave : w ≡ given_by q new.journal) where
  pub looked_in : SameStory d new → Looked p w
  looked_in same = looked_of p q w d new took rest legal gave same

  pub took_of : (n : ℕ) (r : Result Took DeskError) → IfOk r (λ t. TookBy d new a n t) → IfOk r (λ t. TookTurn p w n t)
  took_of n (Ok (Job j)) by_desk = record {
    head = d.head;
    log = d.journal;
    turn = turn_of p q d took legal;
    step = subst (λ (k : ℕ). IsStep (state_of d) (entry_of (state_of d) k (event.Take n) (reply.Job j.ticket j.items))) (sym number) by_desk.0.step;
    pass = did_pass p q w d new a (event.Take n) (reply.Job j.ticket j.items) took rest number gave by_desk.0;
    program = by_desk.1;
  }
  took_of n (Ok Idle) by_desk = looked_of p q w d new took rest legal gave (same_desk d new by_desk.0)
  took_of n (Ok Finished) by_desk = (looked_of p q w d new took rest legal gave (same_desk d new by_desk.0), by_desk.2)
  took_of n (Err error) by_desk = tt

  pub looked_err : {A : Type 0} (r : Result A DeskError) → IfErr r (λ error. SameStory d new) → IfErr r (λ error. Looked p w)
  looked_err (Ok x) same = tt
  looked_err (Err error) same = looked_in same

  pub offered_of : (ticket : ℕ) (ps : List Proposed) (r : Result Reply DeskError) → IfOk r (λ x. OfferedBy d new a ticket ps x) → IfOk r (λ x. OfferedIn p w ticket ps x)
  offered_of ticket ps (Ok x) by_desk = record {
    head = d.head;
    log = d.journal;
    turn = turn_of p q d took legal;
    step = subst (λ (k : ℕ). IsStep (state_of d) (entry_of (state_of d) k (event.Offer ticket) x)) (sym number) by_desk.0.step;
    exact = by_desk.1;
    pass = did_pass p q w d new a (event.Offer ticket) x took rest number gave by_desk.0;
  }
  offered_of ticket ps (Err error) by_desk = tt
