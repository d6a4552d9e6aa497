-- What is answered to proposals that were made on the job's own program. Use `made_is_proper` for the reply to an offer of them,
-- and `refused_is` for its refusal.
use Rattle.std.proofs.Common.{◌≡◌, ℕ, suc, Bool, true, false, cond, List, [], ◌∷◌, map, refl, sym, ap, ◌∙◌, subst, arith, inl, inr}
use Rattle.std.specs.Prelude.{Contains, Option, Some, None}
use Rattle.std.specs.Option.{option_map}
use Rattle.rvd_fact.specs.Program.{Program}
use Rattle.rvd_fact.specs.declared.cells.Change.{Change}
use Rattle.rvd_ask.specs.declared.answers.Answer.{Answer}
use Rattle.rvd_ask.specs.declared.asks.Ask.{Ask}
use Rattle.rvd_ask.specs.declared.asks.Item.{Item}
use Rattle.rvd_ask.specs.Answers.{ans, Hold, IsSame}
use Rattle.rvd_ask.specs.Order.{same_item}
use Rattle.rvd_ask.specs.Promise.{Proposed}
use Rattle.rvd_ask.specs.Rules.{asks, rule}
use Rattle.rvd_ask.proofs.ItemOrder.{same_item_itself}
use Rattle.rvd_event.specs.declared.replies.Reply.{Reply}
use Rattle.rvd_event.specs.declared.replies.Reply.TheVariants as reply
use Rattle.rvd_event.specs.declared.replies.Refusal.{Refusal}
use Rattle.rvd_event.specs.declared.replies.Refusal.TheVariants as refusal
use Rattle.rvd_event.specs.declared.verdicts.Verdict.{Verdict}
use Rattle.rvd_wake.specs.Made.{AreMadeOn, IsMadeOn}
use Rattle.rvd_machine.specs.Enabled.{Enabled, is_on}
use Rattle.rvd_machine.specs.Exact.{AreExactVerdicts, first_misfit, IsExactIn, IsFirstDiffering, IsFitReply, IsVerdictAt, IsVerdictBy, IsVerdictIf, verdict_by}
use Rattle.rvd_machine.specs.Proper.{AreMadeFor, AreProperVerdicts, IsProperReply, IsProperVerdict, IsVerdictReply, MadeIsProper}
use Rattle.rvd_machine.specs.State.{State, Job, job_of}
use Rattle.rvd_machine.specs.Verdicts.{Batch, first_batch, judged}

-- ---- they fit the job's items
fits : (P : Program) (items : List Item) (proposals : List Proposed) → AreMadeOn P items proposals → first_misfit items proposals ≡ None
fits P [] [] made = refl
fits P [] (p ∷ proposals) made = absurd made
fits P (i ∷ items) [] made = absurd made
fits P (i ∷ items) (p ∷ proposals) made =
    let same : same_item i p.item ≡ true = ap (same_item i) made.0.item ∙ same_item_itself i in
    ap (λ (b : Bool). cond b (option_map suc (first_misfit items proposals)) (Some 0)) same
    ∙ ap (option_map suc) (fits P items proposals made.1)

-- ---- the first read that differs is one of the reads, and an ask of the rule
asked_in : (W : Program) (reads : List (Ask × Answer)) (r : Ask × Answer) → IsFirstDiffering W reads (Some r) → Contains (map (λ (s : Ask × Answer). s.0) reads) r.0
asked_in W [] r first = absurd (let e : Some r ≡ None = first in cc)
asked_in W (s ∷ reads) r (inl first) =
    let rest = asked_in W reads r first.1 in
    (suc rest.0, omega (arith, rest.1), rest.2)
asked_in W (s ∷ reads) r (inr first) =
    let e : r ≡ s = (let f = first.1 in cc) in
    (0, omega arith, ap (λ (q : Ask × Answer). q.0) (sym e))

held_at : (P W : Program) (reads : List (Ask × Answer)) (r : Ask × Answer) → Hold P reads → IsFirstDiffering W reads (Some r) → IsSame r.1 (ans P r.0)
held_at P W [] r hold first = absurd (let e : Some r ≡ None = first in cc)
held_at P W (s ∷ reads) r hold (inl first) = held_at P W reads r hold.1 first.1
held_at P W (s ∷ reads) r hold (inr first) =
    let e : r ≡ s = (let f = first.1 in cc) in
    subst (λ (q : Ask × Answer). IsSame q.1 (ans P q.0)) (sym e) hold.0

-- ---- so each verdict is proper
by_rule : (P : Program) (i : Item) (cs : List Change) (v : Verdict) → v ≡ verdict_by cs → IsProperVerdict P i v
by_rule P i [] v is = subst (IsProperVerdict P i) (sym is) tt
by_rule P i (c ∷ cs) v is = subst (IsProperVerdict P i) (sym is) tt

at_read : (P W : Program) (i : Item) (p : Proposed) (r : Ask × Answer) (v : Verdict) → IsMadeOn P i p → IsFirstDiffering W p.reads (Some r) → IsVerdictAt P W r v → IsProperVerdict P i v
at_read P W i p r v made first (inl at) =
    let asked : Contains (asks P p.item) r.0 = (made.asked r.0).0 (asked_in W p.reads r first) in
    subst (IsProperVerdict P i) (sym at.1) (subst (λ (j : Item). Contains (asks P j) r.0) made.item asked)
at_read P W i p r v made first (inr at) = absurd (at.0 (held_at P W p.reads r made.hold first))

by_found : (P W : Program) (i : Item) (p : Proposed) (found : Option (Ask × Answer)) (v : Verdict) → IsMadeOn P i p → IsFirstDiffering W p.reads found → IsVerdictBy P W p.item found v → IsProperVerdict P i v
by_found P W i p None v made first is = by_rule P i (rule W p.item) v is
by_found P W i p (Some r) v made first is = at_read P W i p r v made first is

by_switch : (on : Bool) (P W : Program) (i : Item) (p : Proposed) (v : Verdict) → IsMadeOn P i p → IsVerdictIf on P W p v → IsProperVerdict P i v
by_switch false P W i p v made is = subst (IsProperVerdict P i) (sym is) tt
by_switch true P W i p v made is = by_found P W i p is.0 v made is.1 is.2

proper_verdicts : (E : Enabled) (P : Program) (items : List Item) (b : Batch) (proposals : List Proposed) (verdicts : List Verdict) → AreMadeOn P items proposals → AreExactVerdicts E P b proposals verdicts → AreProperVerdicts P items verdicts
proper_verdicts E P [] b [] verdicts made exact = subst (AreProperVerdicts P []) (sym exact) tt
proper_verdicts E P [] b (p ∷ proposals) verdicts made exact = absurd made
proper_verdicts E P (i ∷ items) b [] verdicts made exact = absurd made
proper_verdicts E P (i ∷ items) b (p ∷ proposals) [] made exact = absurd exact
proper_verdicts E P (i ∷ items) b (p ∷ proposals) (v ∷ verdicts) made exact = (
  by_switch (is_on E p.item.analyzer) P b.work i p v made.0 exact.0,
  proper_verdicts E P items (judged E b p.item v) proposals verdicts made.1 exact.1,
)

-- ---- and so is the reply
no_refusal : (vs : List Verdict) (r : Refusal) → reply.Verdicts vs ≡ reply.Refused r → ⊥
no_refusal vs r same = cc

fit_of : (s : State) (job : Job) (proposals : List Proposed) (r : Reply) → AreMadeOn job.program job.items proposals → IsFitReply s job proposals (first_misfit job.items proposals) r
    → (verdicts : List Verdict) × (r ≡ reply.Verdicts verdicts) × AreExactVerdicts s.enabled job.program (first_batch s) proposals verdicts
fit_of s job proposals r made fit = subst (λ (o : Option ℕ). IsFitReply s job proposals o r) (fits job.program job.items proposals made) fit

proper_in : (s : State) (ticket : ℕ) (proposals : List Proposed) (o : Option Job) (r : Reply) → AreMadeFor o proposals → IsExactIn s ticket proposals o r → IsProperReply o r
proper_in s ticket proposals None r made exact = tt
proper_in s ticket proposals (Some job) r made exact =
    let fit = fit_of s job proposals r made exact in
    subst (IsVerdictReply job.program job.items) (sym fit.1) (proper_verdicts s.enabled job.program job.items (first_batch s) proposals fit.0 made fit.2)

pub made_is_proper : MadeIsProper
made_is_proper s ticket proposals r made exact = proper_in s ticket proposals (job_of ticket s.taken) r made exact

-- a refusal is Cancelled, where there is no job
refusals : (r t : Refusal) → reply.Refused r ≡ reply.Refused t → r ≡ t
refusals r t same = cc

pub refused_is : (s : State) (ticket : ℕ) (proposals : List Proposed) (o : Option Job) (r : Refusal) → AreMadeFor o proposals → IsExactIn s ticket proposals o (reply.Refused r)
    → (r ≡ refusal.Cancelled ticket) × (o ≡ None)
refused_is s ticket proposals None r made exact = (refusals r (refusal.Cancelled ticket) exact, refl)
refused_is s ticket proposals (Some job) r made exact =
    let fit = fit_of s job proposals (reply.Refused r) made exact in
    absurd (no_refusal fit.0 r (sym fit.1))
