-- What an offer is answered whose proposals were made on the job's own program. Use `IsProper` and `AreProper` for the entries
-- of a journal, and `MadeIsProper` for what follows from how the proposals were made.
use Rattle.std.specs.Prelude.{ℕ, List, [], ◌∷◌, Option, Some, None, Contains}
use Rattle.rvd_fact.specs.Program.{Program}
use Rattle.rvd_ask.specs.declared.asks.Item.{Item}
use Rattle.rvd_ask.specs.Promise.{Proposed}
use Rattle.rvd_ask.specs.Rules.{asks}
use Rattle.rvd_event.specs.declared.events.Event.{Event}
use Rattle.rvd_event.specs.declared.events.Event.TheVariants as event
use Rattle.rvd_event.specs.declared.replies.Reply.{Reply}
use Rattle.rvd_event.specs.declared.replies.Reply.TheVariants as reply
use Rattle.rvd_event.specs.declared.verdicts.Verdict.{Verdict}
use Rattle.rvd_event.specs.declared.verdicts.Verdict.TheVariants.{Stale, Foreign}
use Rattle.rvd_journal.specs.declared.entries.Entry.{Entry}
use Rattle.rvd_wake.specs.Made.{AreMadeOn}
use Rattle.rvd_machine.specs.Exact.{IsExactReply}
use Rattle.rvd_machine.specs.State.{State, Job, job_of}
use Rattle.rvd_machine.specs.Steps.{after}

-- where a ticket has a job, the proposals for it are made on the job's program
abbrev pub AreMadeFor : Option Job → List Proposed → Type 0
AreMadeFor None proposals = Unit {0}
AreMadeFor (Some job) proposals = AreMadeOn job.program job.items proposals

-- a verdict on an item of a job with the program P isn't Foreign, and a Stale one names an ask of the item's rule on P
abbrev pub IsProperVerdict : Program → Item → Verdict → Type 0
IsProperVerdict P i (Stale ask was now) = Contains (asks P i) ask
IsProperVerdict P i (Foreign ask said was) = ⊥
IsProperVerdict P i v = Unit {0}

-- one verdict for each item
abbrev pub AreProperVerdicts : Program → List Item → List Verdict → Type 0
AreProperVerdicts P [] [] = Unit {0}
AreProperVerdicts P [] (v ∷ verdicts) = ⊥
AreProperVerdicts P (i ∷ items) [] = ⊥
AreProperVerdicts P (i ∷ items) (v ∷ verdicts) = IsProperVerdict P i v × AreProperVerdicts P items verdicts

-- an offer of a job that is taken is answered by such verdicts, and not by Misfit
abbrev pub IsVerdictReply : Program → List Item → Reply → Type 0
IsVerdictReply P items (reply.Verdicts verdicts) = AreProperVerdicts P items verdicts
IsVerdictReply P items r = ⊥

abbrev pub IsProperReply : Option Job → Reply → Type 0
IsProperReply None r = Unit {0}
IsProperReply (Some job) r = IsVerdictReply job.program job.items r

-- the reply to each offer is such a one
abbrev pub IsProperTo : State → Event → Reply → Type 0
IsProperTo s (event.Offer ticket) r = IsProperReply (job_of ticket s.taken) r
IsProperTo s e r = Unit {0}

abbrev pub IsProper : State → Entry → Type 0
IsProper s e = IsProperTo s e.event e.reply

-- so it is along a journal, where s is the state before these entries
abbrev pub AreProper : State → List Entry → Type 0
AreProper s [] = Unit {0}
AreProper s (e ∷ es) = IsProper s e × AreProper (after s e) es

-- the desk's own reply to an offer of proposals that were made for its job is such a one, where the ticket has a job
abbrev pub MadeIsProper : Type 0
MadeIsProper =
    (s : State) (ticket : ℕ) (proposals : List Proposed) (r : Reply) → AreMadeFor (job_of ticket s.taken) proposals → IsExactReply s ticket proposals r
    → IsProperReply (job_of ticket s.taken) r
