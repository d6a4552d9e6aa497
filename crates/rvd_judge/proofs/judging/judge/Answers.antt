use Rattle.std.proofs.Common.{◌≡◌, List, subst, sym}
use Rattle.std.specs.Prelude.{IfOk, Result}
use Rattle.std.proofs.lemmas.Result.{IfOk-weaker}
use Rattle.rvd_ask.specs.declared.asks.Item.{Item}
use Rattle.rvd_machine.specs.Verdicts.{AreVerdicts}
use Rattle.rvd_judge.specs.Batches.{batch_on, enabled_in}
use Rattle.rvd_judge.proofs.BatchLemmas.{AreByRule, batch_end, by_rule_all, exact-batches}
use Rattle.rvd_judge.proofs.Legal.{fit_all, legal}
use Rattle.rvd_judge.proofs.Outcomes.{made, next_of, none_left, reached-again, reached-exact, reached-kept, reached-work, reaches-next}
use Rattle.rvd_judge.proofs.judging.judge.Goals as goal

if_ok_at : {X Y : Type 0} (r : Result X Y) (x : X) (Q : X → Type 0) → Q x → IfOk r (λ y. y ≡ x) → IfOk r Q
if_ok_at r x Q holds is = IfOk-weaker r (λ y. y ≡ x) Q (λ y e. subst Q (sym e) holds) is

pub loop-place-preserved : goal.loop-place-preserved
loop-place-preserved c =
    let p = c.index-proposals-place.result in
    let k = c.loop-place.place in
    reaches-next (enabled_in c.args.enabled.now) c.args.job.now (made c.args.work.now c.args.again.now.items c.args.changes.now.items) c.loop-place.work c.judge_one.new.work c.loop-place.again.items c.judge_one.new.again.items c.loop-place.changes.items c.judge_one.new.kept.items c.args.proposals.now k c.loop-place.verdicts.items c.push.new.self.items p c.in_ok-verdict.verdict
    (next_of c.args.items.now c.args.proposals.now k p c.requires c.loop-place-test.true c.index-proposals-place.is)
    c.in_ok-verdict.ensures.exact c.in_ok-verdict.ensures.forms c.in_ok-verdict.ensures.work c.in_ok-verdict.ensures.again c.in_ok-verdict.ensures.kept c.in_ok-push.ensures.items c.loop-place.invariant

pub returns-clause-exact : goal.returns-clause-exact
returns-clause-exact c =
    let E = enabled_in c.args.enabled.now in
    let none = none_left c.args.items.now c.args.proposals.now c.loop-place.place c.requires c.loop-place-test.false in
    let exact = reached-exact E c.args.job.now _ _ c.args.proposals.now c.loop-place.place c.loop-place.verdicts.items none c.loop-place.invariant in
    if_ok_at c.of.result c.loop-place.verdicts.items _ (λ (queue : List Item). exact-batches E c.args.job.now (batch_on c.args.work.now queue) c.args.proposals.now c.loop-place.verdicts.items exact) c.of.ensures

pub returns-clause-legal : goal.returns-clause-legal
returns-clause-legal c =
    let E = enabled_in c.args.enabled.now in
    let verdicts = c.loop-place.verdicts.items in
    let none = none_left c.args.items.now c.args.proposals.now c.loop-place.place c.requires c.loop-place-test.false in
    let exact = reached-exact E c.args.job.now _ _ c.args.proposals.now c.loop-place.place verdicts none c.loop-place.invariant in
    if_ok_at c.of.result verdicts _ (λ (queue : List Item).
    let b = batch_on c.args.work.now queue in
    subst (λ (items : List Item). AreVerdicts E c.args.job.now b items verdicts) c.requires
    (legal E c.args.job.now b c.args.proposals.now verdicts (exact-batches E c.args.job.now b c.args.proposals.now verdicts exact) c.loop-place.invariant.forms)) c.of.ensures

pub returns-clause-forms : goal.returns-clause-forms
returns-clause-forms c = if_ok_at c.of.result c.loop-place.verdicts.items _ c.loop-place.invariant.forms c.of.ensures

pub returns-clause-again : goal.returns-clause-again
returns-clause-again c =
    let none = none_left c.args.items.now c.args.proposals.now c.loop-place.place c.requires c.loop-place-test.false in
    if_ok_at c.of.result c.loop-place.verdicts.items _
    (reached-again (enabled_in c.args.enabled.now) c.args.job.now c.args.work.now c.loop-place.work c.args.again.now.items c.loop-place.again.items c.args.changes.now.items c.loop-place.changes.items c.args.items.now c.args.proposals.now c.loop-place.place c.loop-place.verdicts.items c.requires none c.loop-place.invariant)
    c.of.ensures

pub returns-clause-changes : goal.returns-clause-changes
returns-clause-changes c =
    let none = none_left c.args.items.now c.args.proposals.now c.loop-place.place c.requires c.loop-place-test.false in
    if_ok_at c.of.result c.loop-place.verdicts.items _
    (reached-kept (enabled_in c.args.enabled.now) c.args.job.now c.args.work.now c.loop-place.work c.args.again.now.items c.loop-place.again.items c.args.changes.now.items c.loop-place.changes.items c.args.items.now c.args.proposals.now c.loop-place.place c.loop-place.verdicts.items c.requires none c.loop-place.invariant)
    c.of.ensures

pub returns-clause-work : goal.returns-clause-work
returns-clause-work c =
    let none = none_left c.args.items.now c.args.proposals.now c.loop-place.place c.requires c.loop-place-test.false in
    if_ok_at c.of.result c.loop-place.verdicts.items _
    (reached-work (enabled_in c.args.enabled.now) c.args.job.now c.args.work.now c.loop-place.work c.args.again.now.items c.loop-place.again.items c.args.changes.now.items c.loop-place.changes.items c.args.items.now c.args.proposals.now c.loop-place.place c.loop-place.verdicts.items c.requires none c.loop-place.invariant)
    c.of.ensures

pub returns-clause-fit : goal.returns-clause-fit
returns-clause-fit c = if_ok_at c.of.result c.loop-place.verdicts.items _ (fit_all c.analysis_laws.ensures c.args.work.now c.args.items.now c.loop-place.verdicts.items c.entries.ensures.valid) c.of.ensures

pub returns-clause-batch : goal.returns-clause-batch
returns-clause-batch c =
    let E = enabled_in c.args.enabled.now in
    let verdicts = c.loop-place.verdicts.items in
    let none = none_left c.args.items.now c.args.proposals.now c.loop-place.place c.requires c.loop-place-test.false in
    let exact = reached-exact E c.args.job.now _ _ c.args.proposals.now c.loop-place.place verdicts none c.loop-place.invariant in
    let work = reached-work E c.args.job.now c.args.work.now c.loop-place.work c.args.again.now.items c.loop-place.again.items c.args.changes.now.items c.loop-place.changes.items c.args.items.now c.args.proposals.now c.loop-place.place verdicts c.requires none c.loop-place.invariant in
    let by_rule : AreByRule c.args.work.now c.args.items.now verdicts = subst (λ (items : List Item). AreByRule c.args.work.now items verdicts) c.requires (by_rule_all E c.args.job.now c.args.work.now c.args.proposals.now verdicts exact) in
    if_ok_at c.of.result verdicts _ (λ (queue : List Item). batch_end E c.args.work.now c.loop-place.work queue c.args.items.now verdicts by_rule work) c.of.ensures
