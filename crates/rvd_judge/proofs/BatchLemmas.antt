-- What verdicts make of a batch. Use `exact-batches` for the exact verdicts on it, and `batch_end` for what it is after
-- verdicts by the rule, as the exact ones are (`by_rule_all`).
use Rattle.std.proofs.Common.{◌≡◌, ℕ, ◌+◌, Bool, true, false, ◌||◌, not, List, [], ◌∷◌, ◌++◌, length, refl, sym, ap, ◌∙◌, subst, arith, length-append, zero-add, inl, inr}
use Rattle.std.specs.Prelude.{Option, Some, None}
use Rattle.rvd_fact.specs.declared.cells.Change.{Change}
use Rattle.rvd_fact.specs.Program.{Program, applied_all}
use Rattle.rvd_program.proofs.Applying.{applied_all-append}
use Rattle.rvd_ask.specs.declared.answers.Answer.{Answer}
use Rattle.rvd_ask.specs.declared.asks.Ask.{Ask}
use Rattle.rvd_ask.specs.declared.asks.Item.{Item}
use Rattle.rvd_ask.specs.Promise.{Proposed}
use Rattle.rvd_ask.specs.Rules.{rule}
use Rattle.rvd_event.specs.declared.verdicts.Verdict.{Verdict}
use Rattle.rvd_event.specs.declared.verdicts.Verdict.TheVariants.{Joined, Nothing, Off, Stale, Foreign}
use Rattle.rvd_queue.specs.Sets.{with_all}
use Rattle.rvd_machine.specs.Enabled.{Enabled, is_on, woken_into}
use Rattle.rvd_machine.specs.Exact.{AreExactVerdicts, IsVerdictAt, IsVerdictBy, IsVerdictIf, verdict_by}
use Rattle.rvd_machine.specs.Verdicts.{Batch, judged, judged_all, returned}
use Rattle.rvd_judge.specs.Batches.{batch_on, is_none_in}
use Rattle.rvd_judge.specs.Effects.{changes_by, changes_of, items_of, program_after, queued_by, returning_of, woken_in_turn}
use Rattle.rvd_judge.proofs.Outcomes.{AreExactOn, items_in}
use Rattle.rvd_judge.proofs.Queues.{returned-list, with_all-append, woken_into-list}

-- ---- the verdicts on a batch
pub judged-work : (E : Enabled) (b : Batch) (i : Item) (v : Verdict) → (judged E b i v).work ≡ program_after b.work i v
judged-work E b i (Joined k) = refl
judged-work E b i Nothing = refl
judged-work E b i Off = refl
judged-work E b i (Stale ask was now) = refl
judged-work E b i (Foreign ask said was) = refl

pub exact-batches : (E : Enabled) (P : Program) (b : Batch) (proposals : List Proposed) (verdicts : List Verdict) → AreExactOn E P b.work proposals verdicts → AreExactVerdicts E P b proposals verdicts
exact-batches E P b [] verdicts all = all
exact-batches E P b (p ∷ proposals) [] all = all
exact-batches E P b (p ∷ proposals) (v ∷ verdicts) all = (
  all.0,
  exact-batches E P (judged E b p.item v) proposals verdicts (subst (λ (T : Program). AreExactOn E P T proposals verdicts) (sym (judged-work E b p.item v)) all.1),
)

-- ---- what becomes of a batch
-- a batch that has these changes more, and these items in its queue
abbrev gained : Batch → List Item → List Change → Batch
gained b items changes = record { work = applied_all b.work changes; queue = with_all items b.queue; changes = b.changes + length changes; joined = b.joined || not (is_none_in changes) }

or_false : (x : Bool) → x ≡ (x || false)
or_false true = refl
or_false false = refl

or_true : (x : Bool) → true ≡ (x || true)
or_true true = refl
or_true false = refl

or_assoc : (x y z : Bool) → ((x || y) || z) ≡ (x || (y || z))
or_assoc true y z = refl
or_assoc false y z = refl

none-append : (xs ys : List Change) → (not (is_none_in xs) || not (is_none_in ys)) ≡ not (is_none_in (xs ++ ys))
none-append [] ys = refl
none-append (x ∷ xs) ys = refl

batch_by : (S : Program) (queue other : List Item) (m n : ℕ) (a b : Bool) → queue ≡ other → m ≡ n → a ≡ b
    → (let h : Batch = record { work = S; queue = queue; changes = m; joined = a } in h) ≡ (let h : Batch = record { work = S; queue = other; changes = n; joined = b } in h)
batch_by S queue other m n a b queues changes joined =
    ap (λ (q : List Item). let h : Batch = record { work = S; queue = q; changes = m; joined = a } in h) queues
    ∙ ap (λ (k : ℕ). let h : Batch = record { work = S; queue = other; changes = k; joined = a } in h) changes
    ∙ ap (λ (x : Bool). let h : Batch = record { work = S; queue = other; changes = n; joined = x } in h) joined

gained-gained : (b : Batch) (items more : List Item) (changes others : List Change) → gained (gained b items changes) more others ≡ gained b (items ++ more) (changes ++ others)
gained-gained b items more changes others =
    ap (λ (S : Program). let h : Batch = record { work = S; queue = with_all more (with_all items b.queue); changes = (b.changes + length changes) + length others; joined = (b.joined || not (is_none_in changes)) || not (is_none_in others) } in h) (sym (applied_all-append b.work changes others))
    ∙ batch_by (applied_all b.work (changes ++ others)) (with_all more (with_all items b.queue)) (with_all (items ++ more) b.queue) ((b.changes + length changes) + length others) (b.changes + length (changes ++ others)) ((b.joined || not (is_none_in changes)) || not (is_none_in others)) (b.joined || not (is_none_in (changes ++ others)))
    (sym (with_all-append items more b.queue))
    (omega (arith, length-append changes others))
    (or_assoc b.joined (not (is_none_in changes)) (not (is_none_in others)) ∙ ap (λ x. b.joined || x) (none-append changes others))

-- a verdict by the rule: where changes were made, there are some; and verdicts by the rule, each on the program as those
-- before left it
abbrev pub IsByRule : Program → Item → Verdict → Type 0
IsByRule W i (Joined k) = is_none_in (rule W i) ≡ false
IsByRule W i v = Unit {0}

abbrev pub AreByRule : Program → List Item → List Verdict → Type 0
AreByRule W [] verdicts = Unit {0}
AreByRule W (i ∷ items) [] = Unit {0}
AreByRule W (i ∷ items) (v ∷ verdicts) = IsByRule W i v × AreByRule (program_after W i v) items verdicts

no_changes : (b : Batch) (items : List Item) → (record b { queue = with_all items b.queue }) ≡ gained b items []
no_changes b items = batch_by b.work (with_all items b.queue) (with_all items b.queue) b.changes (b.changes + 0) b.joined (b.joined || false) refl (omega arith) (or_false b.joined)

judged_is : (E : Enabled) (b : Batch) (i : Item) (v : Verdict) → IsByRule b.work i v → judged E b i v ≡ gained b (items_of E b.work i v) (changes_of b.work i v)
judged_is E b i (Joined k) some =
    let changes = rule b.work i in
    batch_by (applied_all b.work changes) (returned i (woken_into E b.work changes b.queue)) (with_all (woken_in_turn E b.work changes ++ returning_of i.analyzer i) b.queue) (b.changes + length changes) (b.changes + length changes) true (b.joined || not (is_none_in changes))
    (returned-list i (woken_into E b.work changes b.queue)
    ∙ ap (with_all (returning_of i.analyzer i)) (woken_into-list E b.work changes b.queue)
    ∙ sym (with_all-append (woken_in_turn E b.work changes) (returning_of i.analyzer i) b.queue))
    refl
    (or_true b.joined ∙ ap (λ x. b.joined || not x) (sym some))
judged_is E b i Nothing tt = no_changes b []
judged_is E b i Off tt = no_changes b []
judged_is E b i (Stale ask was now) tt = no_changes b (i ∷ [])
judged_is E b i (Foreign ask said was) tt = no_changes b (i ∷ [])

by_changes : (cs : List Change) (k : ℕ) → Joined k ≡ verdict_by cs → is_none_in cs ≡ false
by_changes [] k is = absurd (cc)
by_changes (c ∷ cs) k is = refl

joined_at : (P W : Program) (r : Ask × Answer) (k : ℕ) → IsVerdictAt P W r (Joined k) → ⊥
joined_at P W r k (inl at) = let is = at.1 in cc
joined_at P W r k (inr at) = let is = at.1 in cc

joined_by_rule : (P W : Program) (i : Item) (o : Option (Ask × Answer)) (k : ℕ) → IsVerdictBy P W i o (Joined k) → is_none_in (rule W i) ≡ false
joined_by_rule P W i None k is = by_changes (rule W i) k is
joined_by_rule P W i (Some r) k at = absurd (joined_at P W r k at)

by_rule_if : (on : Bool) (P W : Program) (p : Proposed) (v : Verdict) → IsVerdictIf on P W p v → IsByRule W p.item v
by_rule_if false P W p (Joined k) is = absurd (let h : Joined k ≡ Off = is in cc)
by_rule_if true P W p (Joined k) is = joined_by_rule P W p.item is.0 k is.2
by_rule_if on P W p Nothing is = tt
by_rule_if on P W p Off is = tt
by_rule_if on P W p (Stale ask was now) is = tt
by_rule_if on P W p (Foreign ask said was) is = tt

pub by_rule_all : (E : Enabled) (P W : Program) (proposals : List Proposed) (verdicts : List Verdict) → AreExactOn E P W proposals verdicts → AreByRule W (items_in proposals) verdicts
by_rule_all E P W [] verdicts all = tt
by_rule_all E P W (p ∷ proposals) [] all = tt
by_rule_all E P W (p ∷ proposals) (v ∷ verdicts) all =
    (by_rule_if (is_on E p.item.analyzer) P W p v all.0, by_rule_all E P (program_after W p.item v) proposals verdicts all.1)

-- after verdicts a batch has their changes, and their items in its queue
batch_is : (E : Enabled) (b : Batch) (items : List Item) (verdicts : List Verdict) → AreByRule b.work items verdicts
    → judged_all E b items verdicts ≡ gained b (queued_by E b.work items verdicts) (changes_by b.work items verdicts)
batch_is E b [] verdicts all = no_changes b []
batch_is E b (i ∷ items) [] all = no_changes b []
batch_is E b (i ∷ items) (v ∷ verdicts) all =
    ap (λ (c : Batch). judged_all E c items verdicts) (judged_is E b i v all.0)
    ∙ batch_is E (gained b (items_of E b.work i v) (changes_of b.work i v)) items verdicts all.1
    ∙ gained-gained b (items_of E b.work i v) (queued_by E (program_after b.work i v) items verdicts) (changes_of b.work i v) (changes_by (program_after b.work i v) items verdicts)

-- the same over a batch before its first verdict
pub batch_end : (E : Enabled) (W T : Program) (queue : List Item) (items : List Item) (verdicts : List Verdict) → AreByRule W items verdicts → T ≡ applied_all W (changes_by W items verdicts)
    → judged_all E (batch_on W queue) items verdicts ≡ (let h : Batch = record { work = T; queue = with_all (queued_by E W items verdicts) queue; changes = length (changes_by W items verdicts); joined = not (is_none_in (changes_by W items verdicts)) } in h)
batch_end E W T queue items verdicts by_rule work =
    let changes = changes_by W items verdicts in
    let queued = with_all (queued_by E W items verdicts) queue in
    batch_is E (batch_on W queue) items verdicts by_rule
    ∙ batch_by (applied_all W changes) queued queued (0 + length changes) (length changes) (not (is_none_in changes)) (not (is_none_in changes)) refl (zero-add (length changes)) refl
    ∙ ap (λ (S : Program). let h : Batch = record { work = S; queue = queued; changes = length changes; joined = not (is_none_in changes) } in h) (sym work)
