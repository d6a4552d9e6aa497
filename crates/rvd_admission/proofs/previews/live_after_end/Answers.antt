use Rattle.std.proofs.Common.{◌≡◌, ◌<◌, sym, ◌∙◌, subst, arith}
use Rattle.rvd_admission.proofs.Outlooks.{none_ended, one_ended, one_less_is}
use Rattle.rvd_admission.proofs.previews.live_after_end.Goals as goal

pub returns-then-live_of-gt0 : goal.returns-then-live_of-gt0
returns-then-live_of-gt0 c =
    let s = c.args.machine.now in
    one_less_is _ _ _ (one_ended s.current c.args.actor (subst (λ n. 0 < n) c.live_of.ensures c.if-live_of-gt0.true)) c.live-live.ensures

pub returns-else-live_of-gt0 : goal.returns-else-live_of-gt0
returns-else-live_of-gt0 c =
    let s = c.args.machine.now in
    let none : c.live_of.result ≡ 0 = omega arith in
    c.live-live.ensures ∙ sym (none_ended s.current c.args.actor (sym c.live_of.ensures ∙ none))
