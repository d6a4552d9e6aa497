-- What an offer of proposals that were made for its job gives. Use `proper_of` for its verdicts, and `failed_of` for its errors.
use Rattle.std.proofs.Common.{◌≡◌, ℕ, List}
use Rattle.std.specs.Prelude.{Result, Ok, Err, IfOk, IfErr}
use Rattle.rvd_ask.specs.Promise.{Proposed}
use Rattle.rvd_event.specs.declared.replies.Reply.TheVariants as reply
use Rattle.rvd_event.specs.declared.verdicts.Verdict.{Verdict}
use Rattle.rvd_machine.specs.Proper.{AreMadeFor, IsProperReply, MadeIsProper}
use Rattle.rvd_machine.specs.State.{job_of}
use Rattle.rvd_machine.proofs.Proper.{refused_is}
use Rattle.rvd_desk.specs.Calls.{OfferedBy, OfferFailed}
use Rattle.rvd_desk.specs.Story.{Story, state_of}
use Rattle.rvd_desk.specs.declared.answers.DeskError.{DeskError}
use Rattle.rvd_desk.specs.declared.answers.DeskError.TheVariants.{Refused, JournalFull, Stopped, OutOfMemory}
use Rattle.rvd_settle.specs.Offering.{OfferTakenFailed}

pub proper_of : MadeIsProper → (old new : Story) (worker ticket : ℕ) (proposals : List Proposed) (r : Result (List Verdict) DeskError) → AreMadeFor (job_of ticket (state_of old).taken) proposals
    → IfOk r (λ (vs : List Verdict). OfferedBy old new worker ticket proposals (reply.Verdicts vs)) → IfOk r (λ (vs : List Verdict). IsProperReply (job_of ticket (state_of old).taken) (reply.Verdicts vs))
proper_of law old new worker ticket proposals (Ok verdicts) made did = law (state_of old) ticket proposals (reply.Verdicts verdicts) made did.1
proper_of law old new worker ticket proposals (Err error) made did = tt

failed_one : (old new : Story) (worker ticket : ℕ) (proposals : List Proposed) (error : DeskError) → AreMadeFor (job_of ticket (state_of old).taken) proposals → OfferFailed old new worker ticket proposals error → OfferTakenFailed old new worker ticket error
failed_one old new worker ticket proposals (Refused r) made failed =
    let is = refused_is (state_of old) ticket proposals (job_of ticket (state_of old).taken) r made failed.1 in
    (failed.0, is.0, is.1)
failed_one old new worker ticket proposals (JournalFull n) made failed = failed
failed_one old new worker ticket proposals (Stopped halt) made failed = failed
failed_one old new worker ticket proposals OutOfMemory made failed = failed.0

pub failed_of : (old new : Story) (worker ticket : ℕ) (proposals : List Proposed) (r : Result (List Verdict) DeskError) → AreMadeFor (job_of ticket (state_of old).taken) proposals
    → IfErr r (λ (error : DeskError). OfferFailed old new worker ticket proposals error) → IfErr r (λ (error : DeskError). OfferTakenFailed old new worker ticket error)
failed_of old new worker ticket proposals (Ok verdicts) made failed = tt
failed_of old new worker ticket proposals (Err error) made failed = failed_one old new worker ticket proposals error made failed
