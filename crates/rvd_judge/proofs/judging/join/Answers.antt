use Rattle.std.proofs.Common.{◌≡◌, List, [], ◌∷◌, length, refl, sym, ap, ◌∙◌, subst, arith}
use Rattle.std.specs.Prelude.{◌==◌, true}
use Rattle.std.proofs.lemmas.Bool.{eqb-true}
use Rattle.rvd_fact.specs.declared.cells.Change.{Change}
use Rattle.rvd_fact.specs.Valid.{Fits}
use Rattle.rvd_event.specs.declared.verdicts.Verdict.TheVariants.{Nothing}
use Rattle.rvd_machine.specs.Exact.{verdict_by}
use Rattle.rvd_judge.proofs.RuleLengths.{few_changes}
use Rattle.rvd_judge.proofs.judging.join.Goals as goal

nothing_by : (cs : List Change) → (length cs == 0) ≡ true → Nothing ≡ verdict_by cs
nothing_by [] h = refl
nothing_by (c ∷ cs) h = let e = eqb-true (length (c ∷ cs)) 0 h in absurd (omega (arith, e))

pub returns-then-is_empty-clause-verdict : goal.returns-then-is_empty-clause-verdict
returns-then-is_empty-clause-verdict c =
    nothing_by c.args.changes.now (sym c.is_empty.ensures ∙ c.if-is_empty.true) ∙ ap verdict_by c.requires.rule

pub apply_in_turn-requires : goal.apply_in_turn-requires
apply_in_turn-requires c = subst (Fits c.args.work.now) (sym c.requires.rule) c.requires.fits

pub overflow_cast-result : goal.overflow_cast-result
overflow_cast-result c = omega (arith, ap length c.requires.rule, few_changes c.args.work.now c.args.item)
