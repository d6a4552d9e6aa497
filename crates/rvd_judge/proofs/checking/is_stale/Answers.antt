use Rattle.std.proofs.Common.{sym, subst}
use Rattle.rvd_ask.specs.Answers.{IsSame}
use Rattle.rvd_judge.proofs.Truths.{negated, refused}
use Rattle.rvd_judge.proofs.checking.is_stale.Goals as goal

pub returns-then-not-same : goal.returns-then-not-same
returns-then-not-same c =
    refused c.same.result c.same.ensures c.if-not-same.true (λ h. subst (IsSame c.args.was.now) (sym c.in_ok-before.ensures) h.0)

pub returns-then-not-same-2 : goal.returns-then-not-same-2
returns-then-not-same-2 c =
    refused c.same-2.result c.same-2.ensures c.if-not-same-2.true (λ h. subst (IsSame c.args.now.now) (sym c.in_ok-here.ensures) h.1)

pub returns : goal.returns
returns c =
    let differ = negated c.same-3.result c.same-3.ensures in (
      λ t. (
        subst (IsSame c.args.was.now) c.in_ok-before.ensures (c.same.ensures.0 c.if-not-same.false),
        subst (IsSame c.args.now.now) c.in_ok-here.ensures (c.same-2.ensures.0 c.if-not-same-2.false),
        differ.0 t,
      ),
      λ h. differ.1 h.2,
    )
