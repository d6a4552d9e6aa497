use Rattle.std.proofs.Common.{◌≡◌, ◌<◌, sym, ◌∙◌, subst, arith}
use Rattle.rvd_admission.proofs.Outlooks.{close_last_live, close_none_live, close_others_live}
use Rattle.rvd_admission.proofs.looks.after_close.Goals as goal

pub returns-then-ended-eq0 : goal.returns-then-ended-eq0
returns-then-ended-eq0 c =
    let s = c.args.machine.now in
    close_none_live s c.args.actor (sym c.is_open.ensures ∙ c.if-not-is_open.false) (sym c.live_of-ended.ensures ∙ c.if-ended-eq0.true)

pub returns-then-ended-live : goal.returns-then-ended-live
returns-then-ended-live c =
    let s = c.args.machine.now in
    close_others_live s c.args.actor (sym c.is_open.ensures ∙ c.if-not-is_open.false) (λ same. c.if-ended-live.true (c.live_of-ended.ensures ∙ same ∙ sym c.live.ensures))

pub returns : goal.returns
returns c =
    let s = c.args.machine.now in
    let some : 0 < c.live_of-ended.result = omega arith in
    close_last_live s c.args.actor (sym c.is_open.ensures ∙ c.if-not-is_open.false) (subst (λ n. 0 < n) c.live_of-ended.ensures some) (sym c.live_of-ended.ensures ∙ c.if-ended-live.false ∙ c.live.ensures)
    ∙ sym c.after_rollback.ensures
