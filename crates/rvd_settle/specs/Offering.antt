-- An offer of what the analyzers propose for a job that is taken. Use `OfferTakenFailed` where it isn't answered by verdicts.
use Rattle.std.specs.Prelude.{◌≡◌, ℕ, None}
use Rattle.rvd_event.specs.declared.events.Event.TheVariants as event
use Rattle.rvd_event.specs.declared.replies.Reply.TheVariants as reply
use Rattle.rvd_event.specs.declared.replies.Refusal.TheVariants as refusal
use Rattle.rvd_machine.specs.State.{job_of}
use Rattle.rvd_desk.specs.Calls.{Did, Failed}
use Rattle.rvd_desk.specs.Story.{Story, state_of}
use Rattle.rvd_desk.specs.declared.answers.DeskError.{DeskError}
use Rattle.rvd_desk.specs.declared.answers.DeskError.TheVariants.{Refused, OutOfMemory}

-- an offer of such proposals is refused only where the ticket isn't among the taken, and then as Cancelled; there may be no memory
-- for the proposals, before the desk looks for room
abbrev pub OfferTakenFailed : Story → Story → ℕ → ℕ → DeskError → Type 0
OfferTakenFailed old new worker ticket (Refused r) =
    Did old new worker (event.Offer ticket) (reply.Refused r) × (r ≡ refusal.Cancelled ticket) × (job_of ticket (state_of old).taken ≡ None)
OfferTakenFailed old new worker ticket OutOfMemory = new ≡ old
OfferTakenFailed old new worker ticket error = Failed old new worker (event.Offer ticket) error
