-- What has become of the program and of the two lists while proposals are judged. Use `Reaches` as a loop's invariant, with
-- `reaches-start`, `reaches-next` and the exits `reached-exact` and `reached-outcome`.
use Rattle.std.proofs.Common.{◌≡◌, ℕ, ◌+◌, ◌<◌, ◌≤◌, true, ◌&&◌, arith, List, [], ◌∷◌, ◌++◌, length, map, drop, get_or, refl, sym, ap, ◌∙◌, subst, append_assoc}
use Rattle.std.specs.List.{list_all}
use Rattle.std.proofs.lemmas.Bool.{and_from}
use Rattle.std.proofs.lemmas.List.{append-nil, drop_all, drop_more, length-map}
use Rattle.std.proofs.lemmas.List.Folds.{list_all-append}
use Rattle.rvd_fact.specs.declared.cells.Change.{Change}
use Rattle.rvd_fact.specs.Program.{Program, applied_all}
use Rattle.rvd_program.proofs.Applying.{applied_all-append}
use Rattle.rvd_ask.specs.declared.asks.Item.{Item}
use Rattle.rvd_ask.specs.Promise.{Proposed}
use Rattle.rvd_event.specs.declared.verdicts.Verdict.{Verdict}
use Rattle.rvd_event.specs.Verdicts.{has_forms}
use Rattle.rvd_machine.specs.Enabled.{Enabled, is_on}
use Rattle.rvd_machine.specs.Exact.{IsVerdictIf}
use Rattle.rvd_judge.specs.Effects.{changes_by, changes_of, items_of, program_after, queued_by}

-- the working program, the items that join the queue, and the changes that were applied
pub record Outcome : Type 0 where
  pub work : Program
  pub again : List Item
  pub kept : List Change

abbrev pub outcome : Enabled → Outcome → Item → Verdict → Outcome
outcome E o i v = record { work = program_after o.work i v; again = o.again ++ items_of E o.work i v; kept = o.kept ++ changes_of o.work i v }

-- an outcome is told by its parts
pub outcome_is : (E : Enabled) (o : Outcome) (i : Item) (v : Verdict) (next : Outcome) → next.work ≡ program_after o.work i v → next.again ≡ o.again ++ items_of E o.work i v → next.kept ≡ o.kept ++ changes_of o.work i v → next ≡ outcome E o i v
outcome_is E o i v next work again kept =
    ap (λ (w : Program). let h : Outcome = record next { work = w } in h) work
    ∙ ap (λ (a : List Item). let h : Outcome = record { work = program_after o.work i v; again = a; kept = next.kept } in h) again
    ∙ ap (λ (k : List Change). let h : Outcome = record { work = program_after o.work i v; again = o.again ++ items_of E o.work i v; kept = k } in h) kept

abbrev pub outcomes : Enabled → Outcome → List Item → List Verdict → Outcome
outcomes E o [] verdicts = o
outcomes E o (i ∷ items) [] = o
outcomes E o (i ∷ items) (v ∷ verdicts) = outcomes E (outcome E o i v) items verdicts

abbrev pub items_in : List Proposed → List Item
items_in proposals = map (λ p. p.item) proposals

-- exact verdicts, each on the program as those before left it
abbrev pub AreExactOn : Enabled → Program → Program → List Proposed → List Verdict → Type 0
AreExactOn E P W [] verdicts = verdicts ≡ []
AreExactOn E P W (p ∷ proposals) [] = ⊥
AreExactOn E P W (p ∷ proposals) (v ∷ verdicts) =
    IsVerdictIf (is_on E p.item.analyzer) P W p v × AreExactOn E P (program_after W p.item v) proposals verdicts

-- after k verdicts: with more of them on the proposals that are left, these are verdicts on all
pub record Reaches (E : Enabled) (P : Program) (start : Outcome) (proposals : List Proposed) (k : ℕ) (verdicts : List Verdict) (now : Outcome) : Type 0 where
  pub exact : (rest : List Verdict) → AreExactOn E P now.work (drop k proposals) rest → AreExactOn E P start.work proposals (verdicts ++ rest)
  pub forms : list_all has_forms verdicts ≡ true
  pub ends : (rest : List Verdict) → outcomes E now (items_in (drop k proposals)) rest ≡ outcomes E start (items_in proposals) (verdicts ++ rest)

pub reaches-start : (E : Enabled) (P : Program) (start : Outcome) (proposals : List Proposed) → Reaches E P start proposals 0 [] start
reaches-start E P start proposals = record { exact = λ rest all. all; forms = refl; ends = λ rest. refl }

reaches-one : (E : Enabled) (P : Program) (start now : Outcome) (proposals : List Proposed) (k : ℕ) (verdicts : List Verdict) (p : Proposed) (v : Verdict)
    → drop k proposals ≡ p ∷ drop (k + 1) proposals → IsVerdictIf (is_on E p.item.analyzer) P now.work p v → has_forms v ≡ true → Reaches E P start proposals k verdicts now
    → Reaches E P start proposals (k + 1) (verdicts ++ v ∷ []) (outcome E now p.item v)
reaches-one E P start now proposals k verdicts p v left exact form reached = record {
  exact = λ rest all. subst (AreExactOn E P start.work proposals) (sym (append_assoc verdicts (v ∷ []) rest)) (reached.exact (v ∷ rest) (subst (λ (ps : List Proposed). AreExactOn E P now.work ps (v ∷ rest)) (sym left) (exact, all)));
  forms = list_all-append has_forms verdicts (v ∷ []) ∙ and_from (list_all has_forms verdicts) (has_forms v && true) reached.forms (and_from (has_forms v) true form refl);
  ends = λ rest.
      ap (λ (ps : List Proposed). outcomes E now (items_in ps) (v ∷ rest)) (sym left)
      ∙ reached.ends (v ∷ rest)
      ∙ ap (outcomes E start (items_in proposals)) (sym (append_assoc verdicts (v ∷ []) rest));
}

abbrev pub made : Program → List Item → List Change → Outcome
made W again kept = record { work = W; again = again; kept = kept }

-- one more verdict
pub reaches-next : (E : Enabled) (P : Program) (start : Outcome) (W T : Program) (again more : List Item) (kept others : List Change) (proposals : List Proposed) (k : ℕ) (verdicts all : List Verdict) (p : Proposed) (v : Verdict)
    → drop k proposals ≡ p ∷ drop (k + 1) proposals → IsVerdictIf (is_on E p.item.analyzer) P W p v → has_forms v ≡ true
    → T ≡ program_after W p.item v → more ≡ again ++ items_of E W p.item v → others ≡ kept ++ changes_of W p.item v → all ≡ verdicts ++ v ∷ []
    → Reaches E P start proposals k verdicts (made W again kept) → Reaches E P start proposals (k + 1) all (made T more others)
reaches-next E P start W T again more kept others proposals k verdicts all p v left exact form work queue changes are reached =
    let now = made W again kept in
    let one : Reaches E P start proposals (k + 1) (verdicts ++ v ∷ []) (outcome E now p.item v) = reaches-one E P start now proposals k verdicts p v left exact form reached in
    subst (λ (vs : List Verdict). Reaches E P start proposals (k + 1) vs (made T more others)) (sym are)
    (subst (Reaches E P start proposals (k + 1) (verdicts ++ v ∷ [])) (sym (outcome_is E now p.item v (made T more others) work queue changes)) one)

-- the proposal at a place, and none past the last
pub next_of : (items : List Item) (proposals : List Proposed) (k : ℕ) (p : Proposed) → items_in proposals ≡ items → k < length items → p ≡ get_or proposals k p → drop k proposals ≡ p ∷ drop (k + 1) proposals
next_of items proposals k p same below is =
    let below_them : k < length proposals = omega (arith, below, ap length same, length-map proposals (λ (q : Proposed). q.item)) in
    drop_more proposals k p below_them ∙ ap (λ (q : Proposed). q ∷ drop (k + 1) proposals) (sym is)

pub none_left : (items : List Item) (proposals : List Proposed) (k : ℕ) → items_in proposals ≡ items → length items ≤ k → drop k proposals ≡ []
none_left items proposals k same past = drop_all k proposals (omega (arith, past, ap length same, length-map proposals (λ (q : Proposed). q.item)))

-- ---- the parts of an outcome in closed form
pub outcomes-work : (E : Enabled) (o : Outcome) (items : List Item) (verdicts : List Verdict) → (outcomes E o items verdicts).work ≡ applied_all o.work (changes_by o.work items verdicts)
outcomes-work E o [] verdicts = refl
outcomes-work E o (i ∷ items) [] = refl
outcomes-work E o (i ∷ items) (v ∷ verdicts) =
    outcomes-work E (outcome E o i v) items verdicts
    ∙ sym (applied_all-append o.work (changes_of o.work i v) (changes_by (program_after o.work i v) items verdicts))

pub outcomes-again : (E : Enabled) (o : Outcome) (items : List Item) (verdicts : List Verdict) → (outcomes E o items verdicts).again ≡ o.again ++ queued_by E o.work items verdicts
outcomes-again E o [] verdicts = sym (append-nil o.again)
outcomes-again E o (i ∷ items) [] = sym (append-nil o.again)
outcomes-again E o (i ∷ items) (v ∷ verdicts) =
    outcomes-again E (outcome E o i v) items verdicts
    ∙ append_assoc o.again (items_of E o.work i v) (queued_by E (program_after o.work i v) items verdicts)

pub outcomes-kept : (E : Enabled) (o : Outcome) (items : List Item) (verdicts : List Verdict) → (outcomes E o items verdicts).kept ≡ o.kept ++ changes_by o.work items verdicts
outcomes-kept E o [] verdicts = sym (append-nil o.kept)
outcomes-kept E o (i ∷ items) [] = sym (append-nil o.kept)
outcomes-kept E o (i ∷ items) (v ∷ verdicts) =
    outcomes-kept E (outcome E o i v) items verdicts
    ∙ append_assoc o.kept (changes_of o.work i v) (changes_by (program_after o.work i v) items verdicts)

-- at the end of the proposals
pub reached-exact : (E : Enabled) (P : Program) (start now : Outcome) (proposals : List Proposed) (k : ℕ) (verdicts : List Verdict)
    → drop k proposals ≡ [] → Reaches E P start proposals k verdicts now → AreExactOn E P start.work proposals verdicts
reached-exact E P start now proposals k verdicts none reached =
    subst (AreExactOn E P start.work proposals) (append-nil verdicts) (reached.exact [] (subst (λ (ps : List Proposed). AreExactOn E P now.work ps []) (sym none) refl))

pub reached-outcome : (E : Enabled) (P : Program) (start now : Outcome) (proposals : List Proposed) (k : ℕ) (verdicts : List Verdict)
    → drop k proposals ≡ [] → Reaches E P start proposals k verdicts now → now ≡ outcomes E start (items_in proposals) verdicts
reached-outcome E P start now proposals k verdicts none reached =
    ap (λ (ps : List Proposed). outcomes E now (items_in ps) []) (sym none)
    ∙ reached.ends []
    ∙ ap (outcomes E start (items_in proposals)) (append-nil verdicts)

-- the program, the items and the changes at the end
pub reached-work : (E : Enabled) (P W T : Program) (again more : List Item) (kept others : List Change) (items : List Item) (proposals : List Proposed) (k : ℕ) (verdicts : List Verdict)
    → items_in proposals ≡ items → drop k proposals ≡ [] → Reaches E P (made W again kept) proposals k verdicts (made T more others) → T ≡ applied_all W (changes_by W items verdicts)
reached-work E P W T again more kept others items proposals k verdicts same none reached =
    ap (λ (o : Outcome). o.work) (reached-outcome E P (made W again kept) (made T more others) proposals k verdicts none reached)
    ∙ outcomes-work E (made W again kept) (items_in proposals) verdicts
    ∙ ap (λ (is : List Item). applied_all W (changes_by W is verdicts)) same

pub reached-again : (E : Enabled) (P W T : Program) (again more : List Item) (kept others : List Change) (items : List Item) (proposals : List Proposed) (k : ℕ) (verdicts : List Verdict)
    → items_in proposals ≡ items → drop k proposals ≡ [] → Reaches E P (made W again kept) proposals k verdicts (made T more others) → more ≡ again ++ queued_by E W items verdicts
reached-again E P W T again more kept others items proposals k verdicts same none reached =
    ap (λ (o : Outcome). o.again) (reached-outcome E P (made W again kept) (made T more others) proposals k verdicts none reached)
    ∙ outcomes-again E (made W again kept) (items_in proposals) verdicts
    ∙ ap (λ (is : List Item). again ++ queued_by E W is verdicts) same

pub reached-kept : (E : Enabled) (P W T : Program) (again more : List Item) (kept others : List Change) (items : List Item) (proposals : List Proposed) (k : ℕ) (verdicts : List Verdict)
    → items_in proposals ≡ items → drop k proposals ≡ [] → Reaches E P (made W again kept) proposals k verdicts (made T more others) → others ≡ kept ++ changes_by W items verdicts
reached-kept E P W T again more kept others items proposals k verdicts same none reached =
    ap (λ (o : Outcome). o.kept) (reached-outcome E P (made W again kept) (made T more others) proposals k verdicts none reached)
    ∙ outcomes-kept E (made W again kept) (items_in proposals) verdicts
    ∙ ap (λ (is : List Item). kept ++ changes_by W is verdicts) same
