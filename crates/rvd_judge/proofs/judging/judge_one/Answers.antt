use Rattle.std.proofs.Common.{sym, ap, ◌∙◌, subst}
use Rattle.rvd_fact.specs.Valid.{Fits}
use Rattle.rvd_ask.specs.declared.asks.Item.{Item}
use Rattle.rvd_ask.specs.Rules.{rule}
use Rattle.rvd_judge.proofs.Legal.{found_forms, led_fit, promised}
use Rattle.rvd_judge.proofs.judging.judge_one.Goals as goal

pub join-requires-clause-rule : goal.join-requires-clause-rule
join-requires-clause-rule c =
    let W = c.args.work.now in
    let p = c.args.proposal.now in
    c.changes-changes.ensures.changes
    ∙ sym (promised c.args.job.now W p c.reads.result.now c.in_ok-verdict.field-0 c.changes-changes.ensures.promise c.entries.ensures.valid c.reads.ensures c.in-None.is c.in_ok-verdict.ensures)
    ∙ ap (rule W) (sym c.item-item.ensures)

pub join-requires-clause-fits : goal.join-requires-clause-fits
join-requires-clause-fits c =
    let W = c.args.work.now in
    subst (λ (i : Item). Fits W (rule W i)) (sym c.item-item.ensures) (led_fit W (rule W c.args.proposal.now.item) (c.analysis_laws.ensures.fits W c.args.proposal.now.item c.entries.ensures.valid))

pub returns-in_ok-push-in-Some-clause-forms : goal.returns-in_ok-push-in-Some-clause-forms
returns-in_ok-push-in-Some-clause-forms c =
    found_forms c.args.job.now c.args.work.now c.args.proposal.now c.reads.result.now c.in_ok-verdict.field-0 c.in-Some.verdict c.changes-changes.ensures.promise c.reads.ensures c.in-Some.is c.in_ok-verdict.ensures
