use Rattle.std.proofs.Common.{◌<◌, List, ap, ◌∙◌, arith}
use Rattle.std.proofs.lemmas.Result.{IfOk-weaker}
use Rattle.std.specs.Prelude.{filter_map}
use Rattle.rvd_fact.specs.declared.keys.Key.{Key}
use Rattle.rvd_fact.specs.declared.cells.Cell.{Cell}
use Rattle.rvd_wake.specs.Walks.{has_place}
use Rattle.rvd_wake.specs.Picks.{data_near}
use Rattle.rvd_wake.proofs.DataPlaces.{data_are}
use Rattle.rvd_wake.proofs.targets.strings_by_unit.Goals as goal

pub returns : goal.returns
returns c =
    let z = c.args.at in
    let n = c.args.n in
    let some : 0 < n = omega arith in
    let pick = λ (entries : List (Key × Cell)). filter_map (λ (e : Key × Cell). data_near z n e.1.value) entries in
    IfOk-weaker c.data_places.result _ _
    (λ places picked t below. ap (has_place t) (picked ∙ ap pick c.entries.ensures.entries) ∙ data_are c.args.after.now z n t some)
    c.data_places.ensures
