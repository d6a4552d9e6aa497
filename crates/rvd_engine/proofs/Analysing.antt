-- A whole analysis that is asked for: what it is answered, and the state that it leads to. Use `did_fill`, with
-- `gains_alike` for its queue.
use Rattle.std.proofs.Common.{◌≡◌, ℕ, ◌+◌, Bool, true, cond, List, [], ◌∷◌, ◌++◌, length, Option, Some, None, sym, ap, ◌∙◌}
use Rattle.rvd_ask.specs.declared.asks.Item.{Item}
use Rattle.rvd_ask.specs.Unsettled.{are_in_order}
use Rattle.rvd_event.specs.declared.events.Event.TheVariants as event
use Rattle.rvd_event.specs.declared.replies.Reply.TheVariants as reply
use Rattle.rvd_event.specs.declared.replies.Refusal.TheVariants as refusal
use Rattle.rvd_event.specs.declared.steps.Step.{Step}
use Rattle.rvd_event.specs.declared.steps.Step.TheVariants as step
use Rattle.rvd_queue.specs.Sets.{with_all, SetLaw}
use Rattle.rvd_machine.specs.Enabled.{all_candidates}
use Rattle.rvd_machine.specs.State.{State, Open, base, is_session, work}
use Rattle.rvd_machine.specs.Moves.{kept_with}
use Rattle.rvd_machine.specs.Replies.{answered}
use Rattle.rvd_engine.specs.Performed.{Answers}

pub did_fill : (s : State) (a : ℕ) (queue : List Item) (current : Option Open) (steps : List Step) (number : ℕ) → is_session a s.open_sessions ≡ true
    → queue ≡ with_all (all_candidates s.enabled (work s)) (with_all (all_candidates s.enabled (base s)) s.queue) → current ≡ kept_with (all_candidates s.enabled (base s)) s.current
    → steps ≡ s.steps ++ step.Full a ∷ [] → number ≡ length s.steps + 1
    → Answers s (record s { queue = queue; current = current; steps = steps; whole = true; due = true }) a event.Full (reply.StepNo number)
did_fill s a queue current steps number here queued kept noted counted = record {
  reply = ap (λ (b : Bool). answered s a event.Full (cond b None (Some refusal.NoSession))) here ∙ ap (λ (n : ℕ). Some (reply.StepNo n)) (sym counted);
  state = λ k. record s { queue = queued k; current = kept k; steps = noted k; whole = true; due = true };
}

-- a queue that gains lists which make it what others would
pub gains_alike : SetLaw → (xs ys xs' ys' queue : List Item) → are_in_order queue ≡ true
    → ((q : List Item) → are_in_order q ≡ true → with_all xs q ≡ with_all xs' q) → ((q : List Item) → are_in_order q ≡ true → with_all ys q ≡ with_all ys' q)
    → with_all ys (with_all xs queue) ≡ with_all ys' (with_all xs' queue)
gains_alike L xs ys xs' ys' queue ordered first second =
    second (with_all xs queue) (L queue xs ordered).with_order ∙ ap (with_all ys') (first queue ordered)
