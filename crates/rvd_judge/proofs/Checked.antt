-- Verdicts that are checked one after another. Use `Leaves` as a loop's invariant, with `leaves-start`, `leaves-next`, and the
-- exits `none_may` and `left_may`; `verdicts_may` and `may_verdicts` for the machine's relation, and `may_by_rule` for what the
-- verdicts make of a batch.
use Rattle.std.proofs.Common.{◌≡◌, ℕ, ◌+◌, ◌<◌, ◌≤◌, false, arith, List, [], ◌∷◌, ◌++◌, length, drop, get_or, suc, refl, sym, ap, ◌∙◌, subst}
use Rattle.std.proofs.lemmas.List.{drop_all, drop_more}
use Rattle.rvd_fact.specs.declared.cells.Change.{Change}
use Rattle.rvd_fact.specs.Program.{Program, applied_all}
use Rattle.rvd_ask.specs.declared.asks.Item.{Item}
use Rattle.rvd_ask.specs.Rules.{rule}
use Rattle.rvd_event.specs.declared.verdicts.Verdict.{Verdict}
use Rattle.rvd_event.specs.declared.verdicts.Verdict.TheVariants.{Joined, Nothing, Off, Stale, Foreign}
use Rattle.rvd_machine.specs.Enabled.{Enabled}
use Rattle.rvd_machine.specs.Verdicts.{AreVerdicts, Batch, IsVerdict, judged}
use Rattle.rvd_judge.specs.Batches.{is_none_in}
use Rattle.rvd_judge.specs.Checks.{MayBe}
use Rattle.rvd_judge.specs.Effects.{changes_by, changes_of, items_of, program_after, queued_by}
use Rattle.rvd_judge.proofs.BatchLemmas.{AreByRule, IsByRule, judged-work}
use Rattle.rvd_judge.proofs.Outcomes.{Outcome, made, outcome, outcome_is, outcomes, outcomes-again, outcomes-kept, outcomes-work}

-- one verdict for each item, each told by the program as those before left it
abbrev pub AllMayBe : Enabled → Program → Program → List Item → List Verdict → Type 0
AllMayBe E P W [] [] = Unit {0}
AllMayBe E P W [] (v ∷ verdicts) = ⊥
AllMayBe E P W (i ∷ items) [] = ⊥
AllMayBe E P W (i ∷ items) (v ∷ verdicts) = MayBe E P W i v × AllMayBe E P (program_after W i v) items verdicts

-- ---- the machine's relation
may_is : (E : Enabled) (P : Program) (b : Batch) (i : Item) (v : Verdict) → MayBe E P b.work i v → IsVerdict E P b i v
may_is E P b i (Joined k) may = may
may_is E P b i Nothing may = may
may_is E P b i Off may = may
may_is E P b i (Stale ask was now) may = (may.0, may.1.0, may.1.1, may.1.2)
may_is E P b i (Foreign ask said was) may = (may.0, may.1.0, may.1.1, may.1.2, may.1.3)

is_may : (E : Enabled) (P : Program) (b : Batch) (i : Item) (v : Verdict) → IsVerdict E P b i v → MayBe E P b.work i v
is_may E P b i (Joined k) is = is
is_may E P b i Nothing is = is
is_may E P b i Off is = is
is_may E P b i (Stale ask was now) is = (is.0, (is.1, is.2, is.3))
is_may E P b i (Foreign ask said was) is = (is.0, (is.1, is.2, is.3, is.4))

pub verdicts_may : (E : Enabled) (P : Program) (b : Batch) (items : List Item) (verdicts : List Verdict) → AreVerdicts E P b items verdicts → AllMayBe E P b.work items verdicts
verdicts_may E P b [] [] are = tt
verdicts_may E P b [] (v ∷ verdicts) are = are
verdicts_may E P b (i ∷ items) [] are = are
verdicts_may E P b (i ∷ items) (v ∷ verdicts) are =
    (is_may E P b i v are.0, subst (λ (T : Program). AllMayBe E P T items verdicts) (judged-work E b i v) (verdicts_may E P (judged E b i v) items verdicts are.1))

pub may_verdicts : (E : Enabled) (P : Program) (b : Batch) (items : List Item) (verdicts : List Verdict) → AllMayBe E P b.work items verdicts → AreVerdicts E P b items verdicts
may_verdicts E P b [] [] all = tt
may_verdicts E P b [] (v ∷ verdicts) all = all
may_verdicts E P b (i ∷ items) [] all = all
may_verdicts E P b (i ∷ items) (v ∷ verdicts) all =
    (may_is E P b i v all.0, may_verdicts E P (judged E b i v) items verdicts (subst (λ (T : Program). AllMayBe E P T items verdicts) (sym (judged-work E b i v)) all.1))

-- ---- verdicts that may be given are by the rule
some_in : (cs : List Change) (k : ℕ) → 0 < k → k ≡ length cs → is_none_in cs ≡ false
some_in [] k some are = absurd (omega (arith, some, are))
some_in (c ∷ cs) k some are = refl

by_rule_one : (E : Enabled) (P W : Program) (i : Item) (v : Verdict) → MayBe E P W i v → IsByRule W i v
by_rule_one E P W i (Joined k) may = some_in (rule W i) k may.1 may.2
by_rule_one E P W i Nothing may = tt
by_rule_one E P W i Off may = tt
by_rule_one E P W i (Stale ask was now) may = tt
by_rule_one E P W i (Foreign ask said was) may = tt

pub may_by_rule : (E : Enabled) (P W : Program) (items : List Item) (verdicts : List Verdict) → AllMayBe E P W items verdicts → AreByRule W items verdicts
may_by_rule E P W [] verdicts all = tt
may_by_rule E P W (i ∷ items) [] all = tt
may_by_rule E P W (i ∷ items) (v ∷ verdicts) all = (by_rule_one E P W i v all.0, may_by_rule E P (program_after W i v) items verdicts all.1)

-- as many verdicts as items
may_length : (E : Enabled) (P W : Program) (items : List Item) (verdicts : List Verdict) → AllMayBe E P W items verdicts → length verdicts ≡ length items
may_length E P W [] [] all = refl
may_length E P W [] (v ∷ verdicts) all = absurd all
may_length E P W (i ∷ items) [] all = absurd all
may_length E P W (i ∷ items) (v ∷ verdicts) all = ap suc (may_length E P (program_after W i v) items verdicts all.1)

-- ---- a loop over the items
-- after k verdicts: those that are left may be given exactly where all may, and lead to the same end
pub record Leaves (E : Enabled) (P : Program) (start : Outcome) (items : List Item) (verdicts : List Verdict) (k : ℕ) (now : Outcome) : Type 0 where
  pub all : AllMayBe E P now.work (drop k items) (drop k verdicts) → AllMayBe E P start.work items verdicts
  pub rest : AllMayBe E P start.work items verdicts → AllMayBe E P now.work (drop k items) (drop k verdicts)
  pub ends : outcomes E now (drop k items) (drop k verdicts) ≡ outcomes E start items verdicts

pub leaves-start : (E : Enabled) (P : Program) (start : Outcome) (items : List Item) (verdicts : List Verdict) → Leaves E P start items verdicts 0 start
leaves-start E P start items verdicts = record { all = λ may. may; rest = λ may. may; ends = refl }

-- the element at a place, with those that are left
pub next_in : {A : Type 0} → (xs : List A) (k : ℕ) (x : A) → k < length xs → x ≡ get_or xs k x → drop k xs ≡ x ∷ drop (k + 1) xs
next_in xs k x below is = drop_more xs k x below ∙ ap (λ y. y ∷ drop (k + 1) xs) (sym is)

-- the verdicts that are left, with the first of them
opened : (E : Enabled) (P W : Program) (items is : List Item) (verdicts vs : List Verdict) (i : Item) (v : Verdict) → items ≡ i ∷ is → verdicts ≡ v ∷ vs
    → AllMayBe E P W items verdicts → MayBe E P W i v × AllMayBe E P (program_after W i v) is vs
opened E P W items is verdicts vs i v left given all =
    subst (λ (ys : List Verdict). AllMayBe E P W (i ∷ is) ys) given (subst (λ (xs : List Item). AllMayBe E P W xs verdicts) left all)

closed : (E : Enabled) (P W : Program) (items is : List Item) (verdicts vs : List Verdict) (i : Item) (v : Verdict) → items ≡ i ∷ is → verdicts ≡ v ∷ vs
    → MayBe E P W i v × AllMayBe E P (program_after W i v) is vs → AllMayBe E P W items verdicts
closed E P W items is verdicts vs i v left given both =
    subst (λ (xs : List Item). AllMayBe E P W xs verdicts) (sym left) (subst (λ (ys : List Verdict). AllMayBe E P W (i ∷ is) ys) (sym given) both)

leaves-one : (E : Enabled) (P : Program) (start now : Outcome) (items : List Item) (verdicts : List Verdict) (k : ℕ) (i : Item) (v : Verdict)
    → drop k items ≡ i ∷ drop (k + 1) items → drop k verdicts ≡ v ∷ drop (k + 1) verdicts → MayBe E P now.work i v → Leaves E P start items verdicts k now
    → Leaves E P start items verdicts (k + 1) (outcome E now i v)
leaves-one E P start now items verdicts k i v left given may so_far = record {
  all = λ more. so_far.all (closed E P now.work (drop k items) (drop (k + 1) items) (drop k verdicts) (drop (k + 1) verdicts) i v left given (may, more));
  rest = λ all. (opened E P now.work (drop k items) (drop (k + 1) items) (drop k verdicts) (drop (k + 1) verdicts) i v left given (so_far.rest all)).1;
  ends =
      ap (λ (ys : List Verdict). outcomes E now (i ∷ drop (k + 1) items) ys) (sym given)
      ∙ ap (λ (xs : List Item). outcomes E now xs (drop k verdicts)) (sym left)
      ∙ so_far.ends;
}

pub leaves-next : (E : Enabled) (P : Program) (start : Outcome) (W T : Program) (again more : List Item) (kept others : List Change) (items : List Item) (verdicts : List Verdict) (k : ℕ) (i : Item) (v : Verdict)
    → drop k items ≡ i ∷ drop (k + 1) items → drop k verdicts ≡ v ∷ drop (k + 1) verdicts → MayBe E P W i v
    → T ≡ program_after W i v → more ≡ again ++ items_of E W i v → others ≡ kept ++ changes_of W i v
    → Leaves E P start items verdicts k (made W again kept) → Leaves E P start items verdicts (k + 1) (made T more others)
leaves-next E P start W T again more kept others items verdicts k i v left given may work queue changes so_far =
    let now = made W again kept in
    let one : Leaves E P start items verdicts (k + 1) (outcome E now i v) = leaves-one E P start now items verdicts k i v left given may so_far in
    subst (Leaves E P start items verdicts (k + 1)) (sym (outcome_is E now i v (made T more others) work queue changes)) one

-- a verdict that may not be given, and another number of verdicts
pub none_may : (E : Enabled) (P : Program) (start now : Outcome) (items : List Item) (verdicts : List Verdict) (k : ℕ) (i : Item) (v : Verdict)
    → drop k items ≡ i ∷ drop (k + 1) items → drop k verdicts ≡ v ∷ drop (k + 1) verdicts → (MayBe E P now.work i v → ⊥) → Leaves E P start items verdicts k now
    → AllMayBe E P start.work items verdicts → ⊥
none_may E P start now items verdicts k i v left given not so_far all =
    not (opened E P now.work (drop k items) (drop (k + 1) items) (drop k verdicts) (drop (k + 1) verdicts) i v left given (so_far.rest all)).0

pub not_as_many : (E : Enabled) (P W : Program) (items : List Item) (verdicts : List Verdict) → (length verdicts ≡ length items → ⊥) → AllMayBe E P W items verdicts → ⊥
not_as_many E P W items verdicts other all = other (may_length E P W items verdicts all)

-- at the end of the items
pub left_may : (E : Enabled) (P : Program) (start now : Outcome) (items : List Item) (verdicts : List Verdict) (k : ℕ) → length items ≤ k → length verdicts ≡ length items
    → Leaves E P start items verdicts k now → AllMayBe E P start.work items verdicts × (now ≡ outcomes E start items verdicts)
left_may E P start now items verdicts k past many so_far =
    let no_items : drop k items ≡ [] = drop_all k items past in
    let no_verdicts : drop k verdicts ≡ [] = drop_all k verdicts (omega (arith, past, many)) in (
      so_far.all (subst (λ (xs : List Item). AllMayBe E P now.work xs (drop k verdicts)) (sym no_items) (subst (λ (ys : List Verdict). AllMayBe E P now.work [] ys) (sym no_verdicts) tt)),
      ap (λ (xs : List Item). outcomes E now xs (drop k verdicts)) (sym no_items) ∙ so_far.ends,
    )

-- the program, the items and the changes at the end
pub end_work : (E : Enabled) (W T : Program) (again more : List Item) (kept others : List Change) (items : List Item) (verdicts : List Verdict) → made T more others ≡ outcomes E (made W again kept) items verdicts → T ≡ applied_all W (changes_by W items verdicts)
end_work E W T again more kept others items verdicts is = ap (λ (o : Outcome). o.work) is ∙ outcomes-work E (made W again kept) items verdicts

pub end_again : (E : Enabled) (W T : Program) (again more : List Item) (kept others : List Change) (items : List Item) (verdicts : List Verdict) → made T more others ≡ outcomes E (made W again kept) items verdicts → more ≡ again ++ queued_by E W items verdicts
end_again E W T again more kept others items verdicts is = ap (λ (o : Outcome). o.again) is ∙ outcomes-again E (made W again kept) items verdicts

pub end_kept : (E : Enabled) (W T : Program) (again more : List Item) (kept others : List Change) (items : List Item) (verdicts : List Verdict) → made T more others ≡ outcomes E (made W again kept) items verdicts → others ≡ kept ++ changes_by W items verdicts
end_kept E W T again more kept others items verdicts is = ap (λ (o : Outcome). o.kept) is ∙ outcomes-kept E (made W again kept) items verdicts
