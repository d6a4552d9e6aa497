-- What becomes of an event with an answer that was given before. Use `IsAnswer` for the answers that the machine may give,
-- `IsAdmitted` for what a call does with one, and `IsChecked` for the outcome of verdicts before the machine changes.
use Rattle.std.specs.Prelude.{◌≡◌, ℕ, ◌≤◌, Bool, true, false, List, Option}
use Rattle.rvd_fact.specs.Program.{Program}
use Rattle.rvd_ask.specs.declared.asks.Item.{Item}
use Rattle.rvd_event.specs.declared.events.Event.{Event}
use Rattle.rvd_event.specs.declared.events.Event.TheVariants as event
use Rattle.rvd_event.specs.declared.replies.Reply.{Reply}
use Rattle.rvd_event.specs.declared.replies.Reply.TheVariants as reply
use Rattle.rvd_event.specs.declared.replies.Refusal.{Refusal}
use Rattle.rvd_event.specs.declared.replies.Refusal.TheVariants.{Misfit}
use Rattle.rvd_event.specs.declared.verdicts.Verdict.{Verdict}
use Rattle.rvd_judge.specs.Batches.{batch_on}
use Rattle.rvd_machine.specs.Enabled.{Enabled}
use Rattle.rvd_machine.specs.Moves.{offered, settled_step}
use Rattle.rvd_machine.specs.Replies.{IsReply}
use Rattle.rvd_machine.specs.State.{State, work}
use Rattle.rvd_machine.specs.Steps.{moved}
use Rattle.rvd_machine.specs.Verdicts.{AreVerdicts, judged_all}
use Rattle.rvd_engine.specs.declared.offers.Outcome.{Outcome}
use Rattle.rvd_engine.specs.Offered.{Leads, batch_of, taken_in}
use Rattle.rvd_engine.specs.Performed.{Performed}

-- a reply that the machine may give to an event, and the Settled step that follows
pub record IsAnswer (s : State) (actor : ℕ) (e : Event) (r : Reply) (noted : Option ℕ) : Type 0 where
  pub reply : IsReply s actor e r
  pub named : noted ≡ settled_step (moved s actor e r)

-- an event is done with this answer; or this isn't an answer that the machine may give, and nothing happens
abbrev pub IsAdmitted : Bool → State → State → ℕ → Event → Reply → Option ℕ → Type 0
IsAdmitted true old new actor e r noted = Performed old new actor e r noted
IsAdmitted false old new actor e r noted = (new ≡ old) × (¬ IsAnswer old actor e r noted)

-- verdicts may be given on items, and this is what comes of them
pub record IsCheckedOn (E : Enabled) (P W : Program) (items : List Item) (verdicts : List Verdict) (o : Outcome) : Type 0 where
  pub legal : (queue : List Item) → AreVerdicts E P (batch_on W queue) items verdicts
  pub leads : Leads W o
  pub batch : (queue : List Item) → judged_all E (batch_on W queue) items verdicts ≡ batch_of o queue

abbrev pub AreIllegalOn : Enabled → Program → Program → List Item → List Verdict → Type 0
AreIllegalOn E P W items verdicts = (queue : List Item) → ¬ AreVerdicts E P (batch_on W queue) items verdicts

-- verdicts may be given on the job of a ticket, and this is what comes of them
pub record IsChecked (s : State) (ticket : ℕ) (verdicts : List Verdict) (o : Outcome) : Type 0 where
  pub legal : (actor : ℕ) → IsReply s actor (event.Offer ticket) (reply.Verdicts verdicts)
  pub leads : Leads (work s) o
  pub state : (actor : ℕ) → offered s actor ticket verdicts ≡ taken_in s actor ticket o

abbrev pub AreIllegal : State → ℕ → List Verdict → Type 0
AreIllegal s ticket verdicts = (actor : ℕ) → ¬ IsReply s actor (event.Offer ticket) (reply.Verdicts verdicts)

-- a misfit at a place up to the number of a job's items
abbrev pub IsMisfitIn : ℕ → Refusal → Type 0
IsMisfitIn n (Misfit place) = place ≤ n
IsMisfitIn n r = ⊥
