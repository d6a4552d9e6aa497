use Rattle.std.proofs.Common.{get_or, refl, sym, ◌∙◌, arith}
use Rattle.std.proofs.lemmas.Bool.{false≢true}
use Rattle.std.proofs.lemmas.List.{get_or_default}
use Rattle.rvd_ask.specs.declared.asks.Analyzer.TheVariants.{Flow}
use Rattle.rvd_ask.specs.declared.asks.Item.{Item}
use Rattle.rvd_judge.specs.Batches.{batch_on, enabled_in}
use Rattle.rvd_judge.proofs.BatchLemmas.{batch_end}
use Rattle.rvd_judge.proofs.Checked.{end_again, end_kept, end_work, left_may, may_by_rule, may_verdicts, next_in, none_may, not_as_many, verdicts_may}
use Rattle.rvd_judge.proofs.Legal.{fit_all}
use Rattle.rvd_judge.proofs.Outcomes.{made}
use Rattle.rvd_judge.proofs.checking.check_verdicts.Goals as goal

pub returns-then-verdicts-items-clause-legal : goal.returns-then-verdicts-items-clause-legal
returns-then-verdicts-items-clause-legal c =
    let E = enabled_in c.args.enabled.now in
    let W = c.args.work.now in
    λ queue. (
      λ t. absurd (false≢true t),
      λ are. absurd (not_as_many E c.args.job.now W c.args.items.now c.args.verdicts.now (λ same. c.if-verdicts-items.true same) (verdicts_may E c.args.job.now (batch_on W queue) c.args.items.now c.args.verdicts.now are)),
    )

pub returns-then-verdicts-items-clause-fit : goal.returns-then-verdicts-items-clause-fit
returns-then-verdicts-items-clause-fit c = fit_all c.analysis_laws.ensures c.args.work.now c.args.items.now c.args.verdicts.now c.entries.ensures.valid

pub returns-in_err-check_one-clause-fit : goal.returns-in_err-check_one-clause-fit
returns-in_err-check_one-clause-fit c = fit_all c.analysis_laws.ensures c.args.work.now c.args.items.now c.args.verdicts.now c.entries.ensures.valid

pub returns-then-not-branch-clause-legal : goal.returns-then-not-branch-clause-legal
returns-then-not-branch-clause-legal c =
    let E = enabled_in c.args.enabled.now in
    let W = c.args.work.now in
    let k = c.loop-place.place in
    let first : Item = record { analyzer = Flow; at = 0 } in
    let i = get_or c.args.items.now k first in
    λ queue. (
      λ t. absurd (false≢true t),
      λ are. absurd (none_may E c.args.job.now (made W c.args.again.now.items c.args.changes.now.items) (made c.loop-place.work c.loop-place.again.items c.loop-place.changes.items) c.args.items.now c.args.verdicts.now k i c.index-verdicts-place.result
          (next_in c.args.items.now k i c.loop-place-test.true (get_or_default c.args.items.now k first i c.loop-place-test.true))
          (next_in c.args.verdicts.now k c.index-verdicts-place.result (omega arith) c.index-verdicts-place.is)
          (λ may. false≢true (sym c.if-not-branch.true ∙ c.in_ok-check_one.ensures.legal.1 may))
          c.loop-place.invariant
          (verdicts_may E c.args.job.now (batch_on W queue) c.args.items.now c.args.verdicts.now are)),
    )

pub returns-then-not-branch-clause-fit : goal.returns-then-not-branch-clause-fit
returns-then-not-branch-clause-fit c = fit_all c.analysis_laws.ensures c.args.work.now c.args.items.now c.args.verdicts.now c.entries.ensures.valid

pub returns-clause-legal : goal.returns-clause-legal
returns-clause-legal c =
    let E = enabled_in c.args.enabled.now in
    let W = c.args.work.now in
    let start = made W c.args.again.now.items c.args.changes.now.items in
    let end = made c.loop-place.work c.loop-place.again.items c.loop-place.changes.items in
    let all = left_may E c.args.job.now start end c.args.items.now c.args.verdicts.now c.loop-place.place (omega arith) (omega arith) c.loop-place.invariant in
    λ queue. (λ t. may_verdicts E c.args.job.now (batch_on W queue) c.args.items.now c.args.verdicts.now all.0, λ are. refl)

pub returns-clause-again : goal.returns-clause-again
returns-clause-again c = λ t.
    let E = enabled_in c.args.enabled.now in
    let start = made c.args.work.now c.args.again.now.items c.args.changes.now.items in
    let end = made c.loop-place.work c.loop-place.again.items c.loop-place.changes.items in
    let all = left_may E c.args.job.now start end c.args.items.now c.args.verdicts.now c.loop-place.place (omega arith) (omega arith) c.loop-place.invariant in
    end_again E c.args.work.now c.loop-place.work c.args.again.now.items c.loop-place.again.items c.args.changes.now.items c.loop-place.changes.items c.args.items.now c.args.verdicts.now all.1

pub returns-clause-changes : goal.returns-clause-changes
returns-clause-changes c = λ t.
    let E = enabled_in c.args.enabled.now in
    let start = made c.args.work.now c.args.again.now.items c.args.changes.now.items in
    let end = made c.loop-place.work c.loop-place.again.items c.loop-place.changes.items in
    let all = left_may E c.args.job.now start end c.args.items.now c.args.verdicts.now c.loop-place.place (omega arith) (omega arith) c.loop-place.invariant in
    end_kept E c.args.work.now c.loop-place.work c.args.again.now.items c.loop-place.again.items c.args.changes.now.items c.loop-place.changes.items c.args.items.now c.args.verdicts.now all.1

pub returns-clause-work : goal.returns-clause-work
returns-clause-work c = λ t.
    let E = enabled_in c.args.enabled.now in
    let start = made c.args.work.now c.args.again.now.items c.args.changes.now.items in
    let end = made c.loop-place.work c.loop-place.again.items c.loop-place.changes.items in
    let all = left_may E c.args.job.now start end c.args.items.now c.args.verdicts.now c.loop-place.place (omega arith) (omega arith) c.loop-place.invariant in
    end_work E c.args.work.now c.loop-place.work c.args.again.now.items c.loop-place.again.items c.args.changes.now.items c.loop-place.changes.items c.args.items.now c.args.verdicts.now all.1

pub returns-clause-fit : goal.returns-clause-fit
returns-clause-fit c = fit_all c.analysis_laws.ensures c.args.work.now c.args.items.now c.args.verdicts.now c.entries.ensures.valid

pub returns-clause-batch : goal.returns-clause-batch
returns-clause-batch c = λ t. λ queue.
    let E = enabled_in c.args.enabled.now in
    let W = c.args.work.now in
    let start = made W c.args.again.now.items c.args.changes.now.items in
    let end = made c.loop-place.work c.loop-place.again.items c.loop-place.changes.items in
    let all = left_may E c.args.job.now start end c.args.items.now c.args.verdicts.now c.loop-place.place (omega arith) (omega arith) c.loop-place.invariant in
    let work = end_work E W c.loop-place.work c.args.again.now.items c.loop-place.again.items c.args.changes.now.items c.loop-place.changes.items c.args.items.now c.args.verdicts.now all.1 in
    batch_end E W c.loop-place.work queue c.args.items.now c.args.verdicts.now (may_by_rule E c.args.job.now W c.args.items.now c.args.verdicts.now all.0) work
