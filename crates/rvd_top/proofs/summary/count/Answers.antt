use Rattle.std.proofs.Common.{◌≡◌, ◌+◌, ◌≤◌, ap, sym, ◌∙◌, arith, true, false}
use Rattle.rvd_fact.specs.declared.cells.Cell.{Cell}
use Rattle.rvd_top.specs.Summary.{is_counted, number_of}
use Rattle.rvd_top.proofs.Counts.{one_more, none_more, few}
use Rattle.rvd_top.proofs.summary.count.Goals as goal
use Rattle.rvd_top.proofs.summary.count.Goals.{then-has, else-has}

pub overflow_add-number : goal.overflow_add-number
overflow_add-number c =
    let most = few c.args.kind c.entries-entries.result.now c.loop-entry.entry-index (omega arith) in
    omega (arith, most, c.loop-entry.invariant)

pub loop-entry-preserved : goal.loop-entry-preserved
loop-entry-preserved c =
    let here = ap (λ (x : Cell). is_counted c.args.kind x.value) c.cell.ensures in
    elim c.if-has.branch [
      | then-has w ↦
          let passes : is_counted c.args.kind c.entry-item.result.1.value ≡ true = sym here ∙ sym c.has.ensures ∙ w.if-has.true in
          w.number-is ∙ ap (λ n. n + 1) c.loop-entry.invariant ∙ sym (one_more c.args.kind c.entries-entries.result.now c.loop-entry.entry-index c.entry-item.result c.loop-entry-test.true c.entry-item.is passes)
      | else-has w ↦
          let fails : is_counted c.args.kind c.entry-item.result.1.value ≡ false = sym here ∙ sym c.has.ensures ∙ w.if-has.false in
          w.number-is ∙ c.loop-entry.invariant ∙ sym (none_more c.args.kind c.entries-entries.result.now c.loop-entry.entry-index c.entry-item.result c.loop-entry-test.true c.entry-item.is fails)
    ]
