-- The desk's own reply to an offer, where several would be legal: reads are compared with the working program in order, and
-- the first that differs decides. Use `IsExactReply` for an offer of given proposals; `ExactIsLegal` says that it is one of
-- `IsReply`.
use Rattle.std.specs.Prelude.{◌≡◌, ℕ, suc, Bool, true, false, List, [], ◌∷◌, length, Option, Some, None, ◌⊎◌, if◌then◌else◌}
use Rattle.std.specs.Option.{option_map}
use Rattle.rvd_fact.specs.declared.cells.Change.{Change}
use Rattle.rvd_fact.specs.Program.{Program}
use Rattle.rvd_ask.specs.declared.answers.Answer.{Answer}
use Rattle.rvd_ask.specs.declared.asks.Ask.{Ask}
use Rattle.rvd_ask.specs.declared.asks.Item.{Item}
use Rattle.rvd_ask.specs.Answers.{ans, IsSame}
use Rattle.rvd_ask.specs.Order.{same_item}
use Rattle.rvd_ask.specs.Promise.{are_reads, Proposed}
use Rattle.rvd_ask.specs.Rules.{rule}
use Rattle.rvd_event.specs.declared.events.Event.TheVariants as event
use Rattle.rvd_event.specs.declared.replies.Reply.{Reply}
use Rattle.rvd_event.specs.declared.replies.Reply.TheVariants as reply
use Rattle.rvd_event.specs.declared.replies.Refusal.TheVariants as refusal
use Rattle.rvd_event.specs.declared.verdicts.Verdict.{Verdict}
use Rattle.rvd_event.specs.declared.verdicts.Verdict.TheVariants.{Joined, Nothing, Off, Stale, Foreign}
use Rattle.rvd_machine.specs.Enabled.{Enabled, is_on}
use Rattle.rvd_machine.specs.State.{State, Job, job_of}
use Rattle.rvd_machine.specs.Verdicts.{Batch, first_batch, judged}
use Rattle.rvd_machine.specs.Replies.{IsReply}

-- the first place where proposals differ from a job's items, or where one list ends before the other
abbrev pub first_misfit : List Item → List Proposed → Option ℕ
first_misfit [] [] = None
first_misfit [] (p ∷ proposals) = Some 0
first_misfit (i ∷ items) [] = Some 0
first_misfit (i ∷ items) (p ∷ proposals) = if same_item i p.item then option_map suc (first_misfit items proposals) else Some 0

-- the first read that isn't the same as on a program W, or None where all hold there
abbrev pub IsFirstDiffering : Program → List (Ask × Answer) → Option (Ask × Answer) → Type 0
IsFirstDiffering W [] found = found ≡ None
IsFirstDiffering W (r ∷ reads) found =
    (IsSame r.1 (ans W r.0) × IsFirstDiffering W reads found) ⊎ ((¬ IsSame r.1 (ans W r.0)) × (found ≡ Some r))

-- where all reads hold, the verdict is by the rule on the working program
abbrev pub verdict_by : List Change → Verdict
verdict_by [] = Nothing
verdict_by (c ∷ changes) = Joined (length (c ∷ changes))

-- at a read that differs: stale where it is the same as the ask's answer on the job's program P, else foreign
abbrev pub IsVerdictAt : Program → Program → Ask × Answer → Verdict → Type 0
IsVerdictAt P W r v =
    (IsSame r.1 (ans P r.0) × (v ≡ Stale r.0 (ans P r.0) (ans W r.0)))
    ⊎ ((¬ IsSame r.1 (ans P r.0)) × (v ≡ Foreign r.0 r.1 (ans P r.0)))

abbrev pub IsVerdictBy : Program → Program → Item → Option (Ask × Answer) → Verdict → Type 0
IsVerdictBy P W i None v = v ≡ verdict_by (rule W i)
IsVerdictBy P W i (Some r) v = IsVerdictAt P W r v

abbrev pub IsVerdictOn : Program → Program → Proposed → Verdict → Type 0
IsVerdictOn P W p v = (found : Option (Ask × Answer)) × IsFirstDiffering W p.reads found × IsVerdictBy P W p.item found v

-- the one verdict on a proposal for a job with the program P, by whether the item's analyzer is enabled
abbrev pub IsVerdictIf : Bool → Program → Program → Proposed → Verdict → Type 0
IsVerdictIf false P W p v = v ≡ Off
IsVerdictIf true P W p v = IsVerdictOn P W p v

abbrev pub IsExactVerdict : Enabled → Program → Batch → Proposed → Verdict → Type 0
IsExactVerdict E P b p v = IsVerdictIf (is_on E p.item.analyzer) P b.work p v

abbrev pub AreExactVerdicts : Enabled → Program → Batch → List Proposed → List Verdict → Type 0
AreExactVerdicts E P b [] verdicts = verdicts ≡ []
AreExactVerdicts E P b (p ∷ proposals) [] = ⊥
AreExactVerdicts E P b (p ∷ proposals) (v ∷ verdicts) =
    IsExactVerdict E P b p v × AreExactVerdicts E P (judged E b p.item v) proposals verdicts

-- the one reply to an offer of proposals
abbrev pub IsFitReply : State → Job → List Proposed → Option ℕ → Reply → Type 0
IsFitReply s job proposals (Some place) r = r ≡ reply.Refused (refusal.Misfit place)
IsFitReply s job proposals None r =
    (verdicts : List Verdict) × (r ≡ reply.Verdicts verdicts) × AreExactVerdicts s.enabled job.program (first_batch s) proposals verdicts

abbrev pub IsExactIn : State → ℕ → List Proposed → Option Job → Reply → Type 0
IsExactIn s ticket proposals None r = r ≡ reply.Refused (refusal.Cancelled ticket)
IsExactIn s ticket proposals (Some job) r = IsFitReply s job proposals (first_misfit job.items proposals) r

abbrev pub IsExactReply : State → ℕ → List Proposed → Reply → Type 0
IsExactReply s ticket proposals r = IsExactIn s ticket proposals (job_of ticket s.taken) r

-- where each answer in the proposals' reads has the form of its ask, the one reply is a legal one, and no other is the one
abbrev pub AreProposals : List Proposed → Type 0
AreProposals [] = Unit {0}
AreProposals (p ∷ proposals) = (are_reads p.reads ≡ true) × AreProposals proposals

abbrev pub ExactIsLegal : Type 0
ExactIsLegal =
    (s : State) (actor ticket : ℕ) (proposals : List Proposed) (r : Reply) → AreProposals proposals → IsExactReply s ticket proposals r
    → IsReply s actor (event.Offer ticket) r

abbrev pub ExactIsOne : Type 0
ExactIsOne =
    (s : State) (ticket : ℕ) (proposals : List Proposed) (r q : Reply) → IsExactReply s ticket proposals r → IsExactReply s ticket proposals q
    → r ≡ q
