use Rattle.std.proofs.Common.{rules, ◌≡◌, ◌==◌, [], length, refl, ◌∙◌}
use Rattle.rvd_engine.proofs.Emptiness.{both_empty}
use Rattle.rvd_engine.proofs.analysis.has_none.Goals as goal

pub returns : goal.returns
returns c =
    let e : c.is_empty.result ≡ (length c.in_ok-list.list.items == 0) = search rules in
    e ∙ both_empty c.in_ok-list.list.items _ (c.in_ok-list.ensures [] refl)
