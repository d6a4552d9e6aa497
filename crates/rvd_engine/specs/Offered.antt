-- What a worker gets and brings back. Use `shown` for what a caller sees of the job of a ticket, and `IsFound` for what
-- becomes of an offer before the machine changes.
use Rattle.std.specs.Prelude.{◌≡◌, ℕ, not, List, length, Option}
use Rattle.std.specs.Option.{option_map}
use Rattle.rvd_fact.specs.Program.{Program, applied_all}
use Rattle.rvd_fact.specs.Valid.{Fits}
use Rattle.rvd_ask.specs.declared.asks.Item.{Item}
use Rattle.rvd_ask.specs.Promise.{Proposed}
use Rattle.rvd_event.specs.declared.events.Event.TheVariants as event
use Rattle.rvd_event.specs.declared.replies.Reply.TheVariants as reply
use Rattle.rvd_event.specs.declared.verdicts.Verdict.{Verdict}
use Rattle.rvd_judge.specs.Batches.{is_none_in}
use Rattle.rvd_queue.specs.Sets.{with_all}
use Rattle.rvd_machine.specs.Exact.{IsExactReply}
use Rattle.rvd_machine.specs.Moves.{offered, offered_in}
use Rattle.rvd_machine.specs.Replies.{IsReply}
use Rattle.rvd_machine.specs.State.{State, Job, job_of, other_jobs, work}
use Rattle.rvd_machine.specs.Verdicts.{Batch}
use Rattle.rvd_engine.specs.declared.offers.Outcome.{Outcome}
use Rattle.rvd_engine.specs.declared.offers.Finding.{Finding}
use Rattle.rvd_engine.specs.declared.offers.Finding.TheVariants.{Refused, Judged}

-- a job's items and its program
abbrev pub of_job : Job → List Item × Program
of_job job = (job.items, job.program)

abbrev pub shown : ℕ → List Job → Option (List Item × Program)
shown ticket jobs = option_map of_job (job_of ticket jobs)

-- the batch of an offer with this outcome: its program, what the queue gains, and its changes
abbrev pub batch_of : Outcome → List Item → Batch
batch_of o queue = record {
  work = o.work;
  queue = with_all o.again.items queue;
  changes = length o.changes.items;
  joined = not (is_none_in o.changes.items);
}

-- the state after an offer with this outcome
abbrev pub taken_in : State → ℕ → ℕ → Outcome → State
taken_in s actor ticket o = offered_in (record s { taken = other_jobs ticket s.taken }) actor (batch_of o s.queue) s.current

-- the changes of an outcome lead from a program to its own
pub record Leads (S : Program) (o : Outcome) : Type 0 where
  pub fits : Fits S o.changes.items
  pub to : applied_all S o.changes.items ≡ o.work

-- verdicts are the exact ones, and legal, and this is what comes of them
pub record AreFound (s : State) (ticket : ℕ) (proposals : List Proposed) (verdicts : List Verdict) (o : Outcome) : Type 0 where
  pub exact : IsExactReply s ticket proposals (reply.Verdicts verdicts)
  pub legal : (actor : ℕ) → IsReply s actor (event.Offer ticket) (reply.Verdicts verdicts)
  pub leads : Leads (work s) o
  pub state : (actor : ℕ) → offered s actor ticket verdicts ≡ taken_in s actor ticket o

abbrev pub IsFound : State → ℕ → List Proposed → Finding → Type 0
IsFound s ticket proposals (Refused r) =
    IsExactReply s ticket proposals (reply.Refused r) × ((actor : ℕ) → IsReply s actor (event.Offer ticket) (reply.Refused r))
IsFound s ticket proposals (Judged kept given o) = AreFound s ticket proposals kept o × (given ≡ kept)
