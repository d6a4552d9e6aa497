use Rattle.std.proofs.Common.{◌≡◌, ap, ◌∙◌, filter, take, arith}
use Rattle.rvd_ask.specs.Unsettled.{analyzers}
use Rattle.rvd_machine.specs.Enabled.{Enabled, is_on}
use Rattle.rvd_judge.specs.Batches.{enabled_in}
use Rattle.rvd_engine.specs.Inside.{enabled_of}
use Rattle.rvd_engine.proofs.Switching.{listed-enabled}
use Rattle.rvd_engine.proofs.switches.Switches.list.Goals as goal

pub returns : goal.returns
returns c =
    let E : Enabled = enabled_of c.args.self in
    let all : c.loop-analyzer.analyzer-index ≡ 5 = omega (arith, c.loop-analyzer.auto.analyzer-index-end, c.loop-analyzer-test.false) in
    ap enabled_in c.loop-analyzer.invariant ∙ ap (λ k. enabled_in (filter (is_on E) (take k analyzers))) all ∙ listed-enabled E
