use Rattle.std.proofs.Common.{◌∙◌, sym, subst}
use Rattle.std.proofs.lemmas.Bool.{false≢true}
use Rattle.rvd_ask.specs.Answers.{IsSame}
use Rattle.rvd_judge.proofs.Truths.{negated, refused}
use Rattle.rvd_judge.proofs.checking.is_foreign.Goals as goal

pub returns-then-not-has_form : goal.returns-then-not-has_form
returns-then-not-has_form c = (λ t. absurd (false≢true t), λ h. absurd (false≢true (sym c.if-not-has_form.true ∙ c.has_form.ensures ∙ h.0)))

pub returns-then-not-same : goal.returns-then-not-same
returns-then-not-same c =
    refused c.same.result c.same.ensures c.if-not-same.true (λ h. subst (IsSame c.args.was.now) (sym c.in_ok-before.ensures) h.1)

pub returns-then-same : goal.returns-then-same
returns-then-same c =
    (λ t. absurd (false≢true t), λ h. absurd (h.2 (subst (IsSame c.args.said.now) c.in_ok-before.ensures (c.same-2.ensures.0 c.if-same.true))))

pub returns : goal.returns
returns c =
    let differ = negated c.same-3.result c.same-3.ensures in (
      λ t. (
        sym c.has_form.ensures ∙ c.if-not-has_form.false,
        subst (IsSame c.args.was.now) c.in_ok-before.ensures (c.same.ensures.0 c.if-not-same.false),
        λ s. absurd (false≢true (sym c.if-same.false ∙ c.same-2.ensures.1 (subst (IsSame c.args.said.now) (sym c.in_ok-before.ensures) s))),
        λ s. differ.0 t (subst (IsSame c.args.said.now) (sym c.in_ok-here.ensures) s),
      ),
      λ h. differ.1 (λ s. h.3 (subst (IsSame c.args.said.now) c.in_ok-here.ensures s)),
    )
