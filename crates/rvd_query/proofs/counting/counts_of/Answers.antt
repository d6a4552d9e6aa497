use Rattle.std.proofs.Common.{◌≡◌, ◌+◌, ◌<◌, ◌^◌, ap, sym, subst, ◌∙◌, arith, true, false}
use Rattle.rvd_fact.specs.declared.cells.Cell.{Cell}
use Rattle.rvd_fact.specs.Program.{is_gone}
use Rattle.rvd_query.specs.declared.counting.Counts.{Counts}
use Rattle.rvd_query.specs.Counts.{HasRoom, counted}
use Rattle.rvd_query.proofs.CountSteps.{counts_more, counts_same, room}
use Rattle.rvd_query.proofs.counting.counts_of.Goals as goal
use Rattle.rvd_query.proofs.counting.counts_of.Goals.{then-not-is_gone, else-not-is_gone}

pub count_one-requires : goal.count_one-requires
count_one-requires c =
    let short : c.loop-entry.entry-index + 1 < 2 ^ 64 = omega arith in
    subst HasRoom (sym c.loop-entry.invariant) (room c.entries-entries.result.now c.loop-entry.entry-index short)

pub loop-entry-preserved : goal.loop-entry-preserved
loop-entry-preserved c =
    let here = ap (λ (x : Cell). is_gone x.value) c.cell.ensures in
    elim c.if-not-is_gone.branch [
      | then-not-is_gone w ↦
          let present : is_gone c.entry-item.result.1.value ≡ false = sym here ∙ sym c.is_gone.ensures ∙ w.if-not-is_gone.true in
          w.counts-is
          ∙ w.count_one.ensures
          ∙ ap (λ (x : Counts). counted x c.entry-item.result.0.kind) c.loop-entry.invariant
          ∙ sym (counts_more c.entries-entries.result.now c.loop-entry.entry-index c.entry-item.result c.loop-entry-test.true c.entry-item.is present)
      | else-not-is_gone w ↦
          let gone : is_gone c.entry-item.result.1.value ≡ true = sym here ∙ sym c.is_gone.ensures ∙ w.if-not-is_gone.false in
          w.counts-is
          ∙ c.loop-entry.invariant
          ∙ sym (counts_same c.entries-entries.result.now c.loop-entry.entry-index c.entry-item.result c.loop-entry-test.true c.entry-item.is gone)
    ]
