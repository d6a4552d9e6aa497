use Rattle.std.proofs.Common.{◌≡◌, ◌-◌, true, ◌++◌, ◌∷◌, sym, ap, ◌∙◌, arith, rules}
use Rattle.std.proofs.lemmas.Grind.{common_steps}
use Rattle.std.proofs.lemmas.Result.{on_ok_weaker}
use Rattle.rvd_decode.specs.Table.{instruction}
use Rattle.rvd_decode.specs.Flow.{falls_through}
use Rattle.rvd_ask.specs.Answers.{told}
use Rattle.rvd_fact.specs.declared.values.Value.TheVariants.{Code}
use Rattle.rvd_fact.specs.Memory.{unit_key}
use Rattle.rvd_ask.specs.Places.{addition, next_word}
use Rattle.rvd_an_flow.specs.Parts.{behind_asks, ready_asks, units}
use Rattle.rvd_ask.proofs.Proposing.{told-first}
use Rattle.rvd_an_flow.proofs.Steps.{behind-end, behind-more, units-more}
use Rattle.rvd_an_flow.proofs.runs.+add_run.Goals as goal

pub returns-in-None-clause-reads : goal.returns-in-None-clause-reads
returns-in-None-clause-reads g t c =
    let falls : falls_through (instruction c.args.code) ≡ true = search rules in
    c.in_ok-ready_word.ensures.reads ∙ ap (λ qs. c.args.reads.now.items ++ told (g.V.View.program c.args.view.now) qs) (sym (behind-end (g.V.View.program c.args.view.now) c.args.at c.args.code c.args.room c.requires c.if-room-eq0.false falls (sym c.in_ok-ready_word.ensures.answer ∙ c.in-None.is)))

pub returns-in-Some-clause-changes : goal.returns-in-Some-clause-changes
returns-in-Some-clause-changes g t c =
    let falls : falls_through (instruction c.args.code) ≡ true = search rules in
    let P = g.V.View.program c.args.view.now in
    let more : units P c.args.at c.args.room ≡ addition (unit_key c.args.at) (Code c.args.code) ∷ units P (next_word c.args.at) (c.args.room - 1) = units-more P c.args.at c.args.code c.in-Some.code c.args.room c.requires c.if-room-eq0.false falls (sym c.in_ok-ready_word.ensures.answer ∙ c.in-Some.is) in
    on_ok_weaker c.add_run.result (λ e. e ∙ grind (arith, common_steps)) c.add_run.ensures.changes

pub returns-in-Some-clause-reads : goal.returns-in-Some-clause-reads
returns-in-Some-clause-reads g t c =
    let falls : falls_through (instruction c.args.code) ≡ true = search rules in
    let P = g.V.View.program c.args.view.now in
    on_ok_weaker c.add_run.result (λ e. e ∙ ap (λ rs. rs ++ told P (behind_asks P (next_word c.args.at) (c.args.room - 1))) c.in_ok-ready_word.ensures.reads ∙ told-first P c.args.reads.now.items (ready_asks P (next_word c.args.at)) (behind_asks P (next_word c.args.at) (c.args.room - 1)) (behind_asks P c.args.at c.args.room)
    (behind-more P c.args.at c.args.code c.in-Some.code c.args.room c.requires c.if-room-eq0.false falls (sym c.in_ok-ready_word.ensures.answer ∙ c.in-Some.is))) c.add_run.ensures.reads
