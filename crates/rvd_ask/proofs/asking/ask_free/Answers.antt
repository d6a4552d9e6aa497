use Rattle.std.proofs.Common.{◌≡◌, ◌+◌, ◌-◌, ◌++◌, ◌∷◌, [], true, false, sym, ap, ◌∙◌}
use Rattle.std.specs.Prelude.{is_some}
use Rattle.rvd_fact.specs.Memory.{cover}
use Rattle.rvd_ask.specs.declared.asks.Ask.TheVariants as ask
use Rattle.rvd_ask.specs.Answers.{told}
use Rattle.rvd_ask.specs.Flow.{free_asks}
use Rattle.rvd_ask.proofs.FreeBytes.{asks-end, asks-more, free-end, free-more}
use Rattle.rvd_ask.proofs.Proposing.{told-first}
use Rattle.rvd_ask.proofs.asking.ask_free.Goals as goal

pub loop-offset-preserved : goal.loop-offset-preserved
loop-offset-preserved g c =
    let P = g.V.View.program c.args.view.now in
    let at = c.args.at in
    let d = c.loop-offset.offset in
    let n = c.args.count in
    let unfound : is_some (cover P (at + d)) ≡ false = ap is_some (sym c.in_ok-unit.ensures.answer) ∙ sym c.if-is_some.ensures in
    record {
      reads = ap (λ rs. rs ++ told P (free_asks P (at + (d + 1)) (n - (d + 1)))) c.in_ok-unit.ensures.reads
          ∙ told-first P c.loop-offset.reads.items (ask.Cover (at + d) ∷ []) (free_asks P (at + (d + 1)) (n - (d + 1))) (free_asks P (at + d) (n - d)) (asks-more P at d n c.loop-offset-test.true unfound)
          ∙ c.loop-offset.invariant.reads;
      free = sym (free-more P at d n c.loop-offset-test.true unfound) ∙ c.loop-offset.invariant.free;
    }

pub returns-then-is_some-clause-answer : goal.returns-then-is_some-clause-answer
returns-then-is_some-clause-answer g c =
    let P = g.V.View.program c.args.view.now in
    let taken : is_some (cover P (c.args.at + c.loop-offset.offset)) ≡ true = ap is_some (sym c.in_ok-unit.ensures.answer) ∙ sym c.if-is_some.ensures in
    sym (free-end P c.args.at c.loop-offset.offset c.args.count c.loop-offset-test.true taken) ∙ c.loop-offset.invariant.free

pub returns-then-is_some-clause-reads : goal.returns-then-is_some-clause-reads
returns-then-is_some-clause-reads g c =
    let P = g.V.View.program c.args.view.now in
    let taken : is_some (cover P (c.args.at + c.loop-offset.offset)) ≡ true = ap is_some (sym c.in_ok-unit.ensures.answer) ∙ sym c.if-is_some.ensures in
    c.in_ok-unit.ensures.reads
    ∙ ap (λ qs. c.loop-offset.reads.items ++ told P qs) (sym (asks-end P c.args.at c.loop-offset.offset c.args.count c.loop-offset-test.true taken))
    ∙ c.loop-offset.invariant.reads
