use Rattle.std.proofs.Common.{◌≤◌, sym, ◌∙◌, subst}
use Rattle.std.specs.Prelude.{true, false}
use Rattle.rvd_admission.proofs.Outlooks.{end_last}
use Rattle.rvd_admission.proofs.looks.after_end.Goals as goal

pub returns-then-is_lost : goal.returns-then-is_lost
returns-then-is_lost c =
    let s = c.args.machine.now in
    end_last s c.args.actor c.args.keep true (sym c.is_open.ensures ∙ c.if-not-is_open.false) (subst (λ n. n ≤ 0) c.live_after_end.ensures c.if-live_after_end-gt0.false) (sym c.is_lost.ensures ∙ c.if-is_lost.true)
    ∙ sym c.after_rollback.ensures
