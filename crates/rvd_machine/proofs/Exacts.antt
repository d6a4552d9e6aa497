-- The desk's own reply to an offer is legal, and there is one. Use `exact_is_legal` and `exact_is_one`, and
-- `holds` for a proposal none of whose reads differs, and `misfit_within` for the place of a misfit.
use Rattle.std.proofs.Common.{◌≡◌, ℕ, suc, ◌≤◌, Bool, true, false, cond, List, [], ◌∷◌, length, Option, Some, None, refl, sym, ap, ◌∙◌, subst, inl, inr, arith}
use Rattle.std.specs.Option.{option_map}
use Rattle.std.proofs.lemmas.Bool.{and_parts}
use Rattle.std.proofs.lemmas.Option.{none-some, same_Some}
use Rattle.rvd_fact.specs.declared.cells.Change.{Change}
use Rattle.rvd_fact.specs.Program.{Program}
use Rattle.rvd_ask.specs.declared.answers.Answer.{Answer}
use Rattle.rvd_ask.specs.declared.asks.Ask.{Ask}
use Rattle.rvd_ask.specs.declared.asks.Item.{Item}
use Rattle.rvd_ask.specs.Answers.{ans, Hold, IsSame}
use Rattle.rvd_ask.specs.Forms.{has_form}
use Rattle.rvd_ask.specs.Order.{same_item}
use Rattle.rvd_ask.specs.Promise.{are_reads, Proposed}
use Rattle.rvd_ask.specs.Rules.{rule}
use Rattle.rvd_ask.proofs.ItemOrder.{same_item-true}
use Rattle.rvd_event.specs.declared.replies.Reply.{Reply}
use Rattle.rvd_event.specs.declared.replies.Reply.TheVariants as reply
use Rattle.rvd_event.specs.declared.verdicts.Verdict.{Verdict}
use Rattle.rvd_machine.specs.Enabled.{Enabled, is_on}
use Rattle.rvd_machine.specs.State.{State, Job, job_of}
use Rattle.rvd_machine.specs.Verdicts.{Batch, first_batch, judged, IsVerdict, AreVerdicts}
use Rattle.rvd_machine.specs.Replies.{IsOfferReply, IsJobReply}
use Rattle.rvd_machine.specs.Exact.{first_misfit, IsFirstDiffering, verdict_by, IsVerdictAt, IsVerdictBy, IsVerdictIf, AreExactVerdicts, IsFitReply, IsExactIn, AreProposals, ExactIsLegal, ExactIsOne}

-- ---- a verdict on one proposal is legal
pub legal_by_rule : (E : Enabled) (P : Program) (b : Batch) (i : Item) (cs : List Change) → is_on E i.analyzer ≡ true → rule b.work i ≡ cs → IsVerdict E P b i (verdict_by cs)
legal_by_rule E P b i [] on is = (on, is)
legal_by_rule E P b i (c ∷ cs) on is = (on, omega arith, sym (ap length is))

legal_at : (E : Enabled) (P : Program) (b : Batch) (i : Item) (r : Ask × Answer) (v : Verdict) → is_on E i.analyzer ≡ true → has_form r.0 r.1 ≡ true → (IsSame r.1 (ans b.work r.0) → ⊥) → IsVerdictAt P b.work r v → IsVerdict E P b i v
legal_at E P b i r v on form differs (inl stale) = subst (IsVerdict E P b i) (sym stale.1) (on, refl, refl, λ same. differs (stale.0 ∙ same))
legal_at E P b i r v on form differs (inr foreign) = subst (IsVerdict E P b i) (sym foreign.1) (on, form, refl, foreign.0, differs)

-- the first read that differs is one of the reads
differing : (W : Program) (reads : List (Ask × Answer)) (r : Ask × Answer) → are_reads reads ≡ true → IsFirstDiffering W reads (Some r) → (has_form r.0 r.1 ≡ true) × (IsSame r.1 (ans W r.0) → ⊥)
differing W [] r forms found = absurd (none-some r (sym found))
differing W (x ∷ reads) r forms found =
    let parts = and_parts (has_form x.0 x.1) (are_reads reads) forms in
    elim found [
      | inl later ↦ differing W reads r parts.1 later.1
      | inr this ↦ subst (λ (y : Ask × Answer). (has_form y.0 y.1 ≡ true) × (IsSame y.1 (ans W y.0) → ⊥)) (same_Some x r (sym this.1)) (parts.0, this.0)
    ]

legal_on : (E : Enabled) (P : Program) (b : Batch) (p : Proposed) (v : Verdict) → is_on E p.item.analyzer ≡ true → are_reads p.reads ≡ true → (found : Option (Ask × Answer)) → IsFirstDiffering b.work p.reads found → IsVerdictBy P b.work p.item found v → IsVerdict E P b p.item v
legal_on E P b p v on forms None first by = subst (IsVerdict E P b p.item) (sym by) (legal_by_rule E P b p.item (rule b.work p.item) on refl)
legal_on E P b p v on forms (Some r) first by =
    let far = differing b.work p.reads r forms first in
    legal_at E P b p.item r v on far.0 far.1 by

legal_verdict : (E : Enabled) (P : Program) (b : Batch) (p : Proposed) (v : Verdict) (on : Bool) → is_on E p.item.analyzer ≡ on → are_reads p.reads ≡ true → IsVerdictIf on P b.work p v → IsVerdict E P b p.item v
legal_verdict E P b p v true is forms exact = legal_on E P b p v is forms exact.0 exact.1 exact.2
legal_verdict E P b p v false is forms exact = subst (IsVerdict E P b p.item) (sym exact) is

-- where none differs all reads hold, so a proposal's changes are the rule's
pub holds : (W : Program) (reads : List (Ask × Answer)) → IsFirstDiffering W reads None → Hold W reads
holds W [] found = tt
holds W (r ∷ reads) (inl later) = (later.0, holds W reads later.1)
holds W (r ∷ reads) (inr this) = absurd (none-some r this.1)

-- ---- the verdicts on all proposals of a job
some-none : {A : Type 0} (x : A) → Some x ≡ None → ⊥
some-none {A} x h = none-some x (sym h)

misfit_next : (b : Bool) (o : Option ℕ) → cond b (option_map suc o) (Some 0) ≡ None → (b ≡ true) × (o ≡ None)
misfit_next true None h = (refl, refl)
misfit_next true (Some n) h = absurd (some-none (suc n) h)
misfit_next false o h = absurd (some-none 0 h)

legal_verdicts : (E : Enabled) (P : Program) (items : List Item) (proposals : List Proposed) (b : Batch) (vs : List Verdict) → first_misfit items proposals ≡ None → AreProposals proposals → AreExactVerdicts E P b proposals vs → AreVerdicts E P b items vs
legal_verdicts E P [] [] b vs fit forms exact = subst (AreVerdicts E P b []) (sym exact) tt
legal_verdicts E P [] (p ∷ proposals) b vs fit forms exact = absurd (some-none 0 fit)
legal_verdicts E P (i ∷ items) [] b vs fit forms exact = absurd (some-none 0 fit)
legal_verdicts E P (i ∷ items) (p ∷ proposals) b [] fit forms exact = absurd exact
legal_verdicts E P (i ∷ items) (p ∷ proposals) b (v ∷ vs) fit forms exact =
    let fits = misfit_next (same_item i p.item) (first_misfit items proposals) fit in
    let same = sym (same_item-true i p.item fits.0) in (
      subst (λ (j : Item). IsVerdict E P b j v) same (legal_verdict E P b p v (is_on E p.item.analyzer) refl forms.0 exact.0),
      legal_verdicts E P items proposals (judged E b i v) vs fits.1 forms.1 (subst (λ (j : Item). AreExactVerdicts E P (judged E b j v) proposals vs) same exact.1),
    )

-- ---- a misfit is within the job
pub misfit_within : (items : List Item) (proposals : List Proposed) (place : ℕ) → first_misfit items proposals ≡ Some place → place ≤ length items
misfit_within [] [] place h = absurd (none-some place h)
misfit_within [] (p ∷ proposals) place h = let e = same_Some 0 place h in omega (arith, e)
misfit_within (i ∷ items) [] place h = let e = same_Some 0 place h in omega (arith, e)
misfit_within (i ∷ items) (p ∷ proposals) place h = by (same_item i p.item) (first_misfit items proposals) h (λ n. misfit_within items proposals n)
  where
    by : (b : Bool) (o : Option ℕ) → cond b (option_map suc o) (Some 0) ≡ Some place → ((n : ℕ) → o ≡ Some n → n ≤ length items) → place ≤ suc (length items)
    by true None h within = absurd (none-some place h)
    by true (Some n) h within = let e = same_Some (suc n) place h in let le = within n refl in omega (arith, e, le)
    by false o h within = let e = same_Some 0 place h in omega (arith, e)

-- ---- the reply
fit_is_legal : (s : State) (job : Job) (proposals : List Proposed) (o : Option ℕ) (r : Reply) → first_misfit job.items proposals ≡ o → AreProposals proposals → IsFitReply s job proposals o r → IsJobReply s job r
fit_is_legal s job proposals (Some place) r is forms exact = subst (IsJobReply s job) (sym exact) (misfit_within job.items proposals place is)
fit_is_legal s job proposals None r is forms exact = subst (IsJobReply s job) (sym exact.1) (legal_verdicts s.enabled job.program job.items proposals (first_batch s) exact.0 is forms exact.2)

legal_in : (s : State) (ticket : ℕ) (proposals : List Proposed) (o : Option Job) (r : Reply) → AreProposals proposals → IsExactIn s ticket proposals o r → IsOfferReply s ticket o r
legal_in s ticket proposals None r forms exact = exact
legal_in s ticket proposals (Some job) r forms exact = fit_is_legal s job proposals (first_misfit job.items proposals) r refl forms exact

pub exact_is_legal : ExactIsLegal
exact_is_legal s actor ticket proposals r forms exact = legal_in s ticket proposals (job_of ticket s.taken) r forms exact

-- ---- there is one
one_differing : (W : Program) (reads : List (Ask × Answer)) (o q : Option (Ask × Answer)) → IsFirstDiffering W reads o → IsFirstDiffering W reads q → o ≡ q
one_differing W [] o q h k = h ∙ sym k
one_differing W (x ∷ reads) o q (inl h) (inl k) = one_differing W reads o q h.1 k.1
one_differing W (x ∷ reads) o q (inl h) (inr k) = absurd (k.0 h.0)
one_differing W (x ∷ reads) o q (inr h) (inl k) = absurd (h.0 k.0)
one_differing W (x ∷ reads) o q (inr h) (inr k) = h.1 ∙ sym k.1

one_at : (P W : Program) (r : Ask × Answer) (v w : Verdict) → IsVerdictAt P W r v → IsVerdictAt P W r w → v ≡ w
one_at P W r v w (inl h) (inl k) = h.1 ∙ sym k.1
one_at P W r v w (inl h) (inr k) = absurd (k.0 h.0)
one_at P W r v w (inr h) (inl k) = absurd (h.0 k.0)
one_at P W r v w (inr h) (inr k) = h.1 ∙ sym k.1

one_by : (P W : Program) (i : Item) (o : Option (Ask × Answer)) (v w : Verdict) → IsVerdictBy P W i o v → IsVerdictBy P W i o w → v ≡ w
one_by P W i None v w h k = h ∙ sym k
one_by P W i (Some r) v w h k = one_at P W r v w h k

one_if : (on : Bool) (P W : Program) (p : Proposed) (v w : Verdict) → IsVerdictIf on P W p v → IsVerdictIf on P W p w → v ≡ w
one_if false P W p v w h k = h ∙ sym k
one_if true P W p v w h k = one_by P W p.item h.0 v w h.2 (subst (λ (o : Option (Ask × Answer)). IsVerdictBy P W p.item o w) (one_differing W p.reads k.0 h.0 k.1 h.1) k.2)

one_list : (E : Enabled) (P : Program) (proposals : List Proposed) (b : Batch) (vs ws : List Verdict) → AreExactVerdicts E P b proposals vs → AreExactVerdicts E P b proposals ws → vs ≡ ws
one_list E P [] b vs ws h k = h ∙ sym k
one_list E P (p ∷ proposals) b [] ws h k = absurd h
one_list E P (p ∷ proposals) b (v ∷ vs) [] h k = absurd k
one_list E P (p ∷ proposals) b (v ∷ vs) (w ∷ ws) h k =
    let same = one_if (is_on E p.item.analyzer) P b.work p v w h.0 k.0 in
    let rest = one_list E P proposals (judged E b p.item v) vs ws h.1 (subst (λ (x : Verdict). AreExactVerdicts E P (judged E b p.item x) proposals ws) (sym same) k.1) in
    λ j. same j ∷ rest j

one_fit : (s : State) (job : Job) (proposals : List Proposed) (o : Option ℕ) (r q : Reply) → IsFitReply s job proposals o r → IsFitReply s job proposals o q → r ≡ q
one_fit s job proposals (Some place) r q h k = h ∙ sym k
one_fit s job proposals None r q h k = h.1 ∙ ap (λ (vs : List Verdict). reply.Verdicts vs) (one_list s.enabled job.program proposals (first_batch s) h.0 k.0 h.2 k.2) ∙ sym k.1

one_in : (s : State) (ticket : ℕ) (proposals : List Proposed) (o : Option Job) (r q : Reply) → IsExactIn s ticket proposals o r → IsExactIn s ticket proposals o q → r ≡ q
one_in s ticket proposals None r q h k = h ∙ sym k
one_in s ticket proposals (Some job) r q h k = one_fit s job proposals (first_misfit job.items proposals) r q h k

pub exact_is_one : ExactIsOne
exact_is_one s ticket proposals r q h k = one_in s ticket proposals (job_of ticket s.taken) r q h k
