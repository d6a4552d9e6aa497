-- That the exact verdicts are among those that may be given, that their answers have the forms of their asks, and that their
-- changes fit. Use `legal` for the verdicts on a batch, `promised` and `found_forms` for one proposal, and `fit_all` for changes.
use Rattle.std.proofs.Common.{◌≡◌, Bool, true, false, List, [], ◌∷◌, length, refl, sym, ap, ◌∙◌, subst, arith, inl, inr}
use Rattle.std.specs.Prelude.{Option, Some, None, MatchOption}
use Rattle.std.specs.List.{list_all}
use Rattle.std.proofs.lemmas.Bool.{and_from, and_parts}
use Rattle.rvd_fact.specs.declared.cells.Change.{Change}
use Rattle.rvd_fact.specs.Program.{Program, applied}
use Rattle.rvd_fact.specs.Valid.{Fits, IsValid}
use Rattle.rvd_program.proofs.Applying.{fits-append, valid_all}
use Rattle.rvd_ask.specs.declared.answers.Answer.{Answer}
use Rattle.rvd_ask.specs.declared.asks.Ask.{Ask}
use Rattle.rvd_ask.specs.declared.asks.Item.{Item}
use Rattle.rvd_ask.specs.Answers.{ans, IsSame}
use Rattle.rvd_ask.specs.Forms.{has_form}
use Rattle.rvd_ask.specs.Promise.{are_reads, KeepsPromise, Proposed}
use Rattle.rvd_ask.specs.Rules.{rule}
use Rattle.rvd_ask.proofs.Told.{has_form-ans}
use Rattle.rvd_event.specs.declared.verdicts.Verdict.{Verdict}
use Rattle.rvd_event.specs.declared.verdicts.Verdict.TheVariants.{Joined, Nothing, Off, Stale, Foreign}
use Rattle.rvd_event.specs.Verdicts.{has_forms}
use Rattle.rvd_wake.specs.Laws.{AnalysisLaws, LeadAll}
use Rattle.rvd_machine.specs.Enabled.{Enabled, is_on}
use Rattle.rvd_machine.specs.Exact.{AreExactVerdicts, IsFirstDiffering, IsVerdictAt, IsVerdictBy, IsVerdictIf, verdict_by}
use Rattle.rvd_machine.specs.Verdicts.{AreVerdicts, Batch, IsVerdict, judged}
use Rattle.rvd_machine.proofs.Exacts.{holds, legal_by_rule}
use Rattle.rvd_judge.specs.Differing.{IsVerdictAtFirst}
use Rattle.rvd_judge.specs.Effects.{changes_by, changes_of, program_after}
use Rattle.rvd_judge.proofs.Outcomes.{items_in}

at_none : {X : Type 0} (o : Option X) (A : Type 0) (P : X → Type 0) → o ≡ None → MatchOption o A P → A
at_none None A P is holds = holds
at_none (Some x) A P is holds = absurd (cc)

at_some : {X : Type 0} (o : Option X) (x : X) (A : Type 0) (P : X → Type 0) → o ≡ Some x → MatchOption o A P → P x
at_some None x A P is holds = absurd (let e : None ≡ Some x = is in cc)
at_some (Some y) x A P is holds = let e : y ≡ x = cc in subst P e holds

-- ---- the first read that differs
differs : (W : Program) (reads : List (Ask × Answer)) (r : Ask × Answer) → IsFirstDiffering W reads (Some r) → IsSame r.1 (ans W r.0) → ⊥
differs W [] r first same = absurd (let e : Some r ≡ None = first in cc)
differs W (s ∷ reads) r (inl first) same = differs W reads r first.1 same
differs W (s ∷ reads) r (inr first) same =
    let e : r ≡ s = (let f = first.1 in cc) in
    first.0 (subst (λ (q : Ask × Answer). IsSame q.1 (ans W q.0)) e same)

form_of : (W : Program) (reads : List (Ask × Answer)) (r : Ask × Answer) → are_reads reads ≡ true → IsFirstDiffering W reads (Some r) → has_form r.0 r.1 ≡ true
form_of W [] r forms first = absurd (let e : Some r ≡ None = first in cc)
form_of W (s ∷ reads) r forms (inl first) = form_of W reads r (and_parts (has_form s.0 s.1) (are_reads reads) forms).1 first.1
form_of W (s ∷ reads) r forms (inr first) =
    let e : r ≡ s = (let f = first.1 in cc) in
    ap (λ (q : Ask × Answer). has_form q.0 q.1) e ∙ (and_parts (has_form s.0 s.1) (are_reads reads) forms).0

forms_at : (P W : Program) (r : Ask × Answer) (v : Verdict) → has_form r.0 r.1 ≡ true → IsVerdictAt P W r v → has_forms v ≡ true
forms_at P W r v form (inl at) = ap has_forms at.1 ∙ and_from (has_form r.0 (ans P r.0)) (has_form r.0 (ans W r.0)) (has_form-ans P r.0) (has_form-ans W r.0)
forms_at P W r v form (inr at) = ap has_forms at.1 ∙ and_from (has_form r.0 r.1) (has_form r.0 (ans P r.0)) form (has_form-ans P r.0)

forms_at_first : (P W : Program) (reads : List (Ask × Answer)) (v : Verdict) → are_reads reads ≡ true → IsVerdictAtFirst P W reads v → has_forms v ≡ true
forms_at_first P W reads v forms at = forms_at P W at.0 v (form_of W reads at.0 forms at.1) at.2

-- a proposal's reads that hold, and the verdict where one differs
pub promised : (P W : Program) (p : Proposed) (reads : List (Ask × Answer)) (found : Option Verdict) → KeepsPromise p → IsValid W → reads ≡ p.reads → found ≡ None → MatchOption found (IsFirstDiffering W reads None) (IsVerdictAtFirst P W reads) → rule W p.item ≡ p.changes
promised P W p reads found promise valid same is at =
    let first : IsFirstDiffering W reads None = at_none found (IsFirstDiffering W reads None) (IsVerdictAtFirst P W reads) is at in
    promise.kept W valid (holds W p.reads (subst (λ (rs : List (Ask × Answer)). IsFirstDiffering W rs None) same first))

pub found_forms : (P W : Program) (p : Proposed) (reads : List (Ask × Answer)) (found : Option Verdict) (v : Verdict) → KeepsPromise p → reads ≡ p.reads → found ≡ Some v → MatchOption found (IsFirstDiffering W reads None) (IsVerdictAtFirst P W reads) → has_forms v ≡ true
found_forms P W p reads found v promise same is at =
    forms_at_first P W reads v (ap are_reads same ∙ promise.reads) (at_some found v (IsFirstDiffering W reads None) (IsVerdictAtFirst P W reads) is at)

pub forms_by_rule : (cs : List Change) → has_forms (verdict_by cs) ≡ true
forms_by_rule [] = refl
forms_by_rule (c ∷ cs) = refl

-- ---- a verdict that may be given

legal_at : (E : Enabled) (P : Program) (b : Batch) (i : Item) (r : Ask × Answer) (v : Verdict) → is_on E i.analyzer ≡ true → has_forms v ≡ true → (IsSame r.1 (ans b.work r.0) → ⊥) → IsVerdictAt P b.work r v → IsVerdict E P b i v
legal_at E P b i r v on forms other (inl at) =
    subst (IsVerdict E P b i) (sym at.1) (on, refl, refl, λ same. other (at.0 ∙ same))
legal_at E P b i r v on forms other (inr at) =
    subst (IsVerdict E P b i) (sym at.1) (on, (and_parts (has_form r.0 r.1) (has_form r.0 (ans P r.0)) (ap has_forms (sym at.1) ∙ forms)).0, refl, at.0, other)

legal_found : (E : Enabled) (P : Program) (b : Batch) (p : Proposed) (found : Option (Ask × Answer)) (v : Verdict) → is_on E p.item.analyzer ≡ true → has_forms v ≡ true → IsFirstDiffering b.work p.reads found → IsVerdictBy P b.work p.item found v → IsVerdict E P b p.item v
legal_found E P b p None v on forms first by = subst (IsVerdict E P b p.item) (sym by) (legal_by_rule E P b p.item (rule b.work p.item) on refl)
legal_found E P b p (Some r) v on forms first at = legal_at E P b p.item r v on forms (differs b.work p.reads r first) at

legal_if : (E : Enabled) (P : Program) (b : Batch) (p : Proposed) (v : Verdict) (on : Bool) → is_on E p.item.analyzer ≡ on → has_forms v ≡ true → IsVerdictIf on P b.work p v → IsVerdict E P b p.item v
legal_if E P b p v false off forms is = subst (IsVerdict E P b p.item) (sym is) off
legal_if E P b p v true on forms is = legal_found E P b p is.0 v on forms is.1 is.2

-- exact verdicts may be given
pub legal : (E : Enabled) (P : Program) (b : Batch) (proposals : List Proposed) (verdicts : List Verdict) → AreExactVerdicts E P b proposals verdicts → list_all has_forms verdicts ≡ true → AreVerdicts E P b (items_in proposals) verdicts
legal E P b [] [] exact forms = tt
legal E P b [] (v ∷ verdicts) exact forms = absurd (let e : (v ∷ verdicts) ≡ [] = exact in cc)
legal E P b (p ∷ proposals) [] exact forms = exact
legal E P b (p ∷ proposals) (v ∷ verdicts) exact forms =
    let parts = and_parts (has_forms v) (list_all has_forms verdicts) forms in
    (legal_if E P b p v (is_on E p.item.analyzer) refl parts.0 exact.0, legal E P (judged E b p.item v) proposals verdicts exact.1 parts.1)

-- ---- the changes fit
pub led_fit : (S : Program) (cs : List Change) → LeadAll S cs → Fits S cs
led_fit S [] led = tt
led_fit S (c ∷ cs) led = (led.0.here, led.0.after, led_fit (applied S c) cs led.1)

fit_one : AnalysisLaws → (W : Program) (i : Item) (v : Verdict) → IsValid W → Fits W (changes_of W i v)
fit_one laws W i (Joined k) valid = led_fit W (rule W i) (laws.fits W i valid)
fit_one laws W i Nothing valid = tt
fit_one laws W i Off valid = tt
fit_one laws W i (Stale ask was now) valid = tt
fit_one laws W i (Foreign ask said was) valid = tt

pub fit_all : AnalysisLaws → (W : Program) (items : List Item) (verdicts : List Verdict) → IsValid W → Fits W (changes_by W items verdicts)
fit_all laws W [] verdicts valid = tt
fit_all laws W (i ∷ items) [] valid = tt
fit_all laws W (i ∷ items) (v ∷ verdicts) valid =
    let first = fit_one laws W i v valid in
    fits-append W (changes_of W i v) (changes_by (program_after W i v) items verdicts) first
    (fit_all laws (program_after W i v) items verdicts (valid_all W (changes_of W i v) valid first))
